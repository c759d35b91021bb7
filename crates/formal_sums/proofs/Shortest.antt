-- A strictly falling sum with no zero coefficient has no more terms than any sum that is the same, and no other keys.
use Rattle.std.proofs.Common.{◌≡◌, ◌≢◌, ◌<◌, ◌≤◌, Bool, true, false, if◌then◌else◌, ℤ, pos, ◌+ℤ◌, List, [], ◌∷◌, length, IsTrue, refl, sym, ap, subst, ◌∙◌}
use Rattle.std.proofs.Common.{arith}
use Rattle.std.proofs.Math.IntN.{+ℤ_idl}
use Rattle.std.specs.List.{AllByRecursion}
use Rattle.formal_sums.specs.FormalSum.{FormalSum, coefficient, Same, Falling, NonZero}
use Rattle.formal_sums.specs.Keys.{IsEqualityTest, IsStrictOrder}
use Rattle.formal_sums.proofs.Falling.{coefficient-above, coefficient-first}

module _ {K : Type 0} {eq : K → K → Bool} (test : IsEqualityTest eq) where
  -- the terms with other keys than k
  abbrev pub without : K → FormalSum K → FormalSum K
  without k [] = []
  without k (t ∷ v) = if eq t.1 k then without k v else t ∷ without k v

  no_longer : (k : K) (v : FormalSum K) → length (without k v) ≤ length v
  no_longer k [] = omega arith
  no_longer k (t ∷ v) = by (eq t.1 k) (no_longer k v)
    where
      by : (b : Bool) → length (without k v) ≤ length v → length (if b then without k v else t ∷ without k v) ≤ length (t ∷ v)
      by true h = omega (arith, h)
      by false h = omega (arith, h)

  shorter : (k : K) (v : FormalSum K) → coefficient eq v k ≢ pos 0 → length (without k v) < length v
  shorter k [] n = absurd (n refl)
  shorter k (t ∷ v) n = by (eq t.1 k) n (shorter k v) (no_longer k v)
    where
      by : (b : Bool) → ((if b then t.0 else pos 0) +ℤ coefficient eq v k ≢ pos 0) → (coefficient eq v k ≢ pos 0 → length (without k v) < length v)
          → length (without k v) ≤ length v → length (if b then without k v else t ∷ without k v) < length (t ∷ v)
      by true m less h = omega (arith, h)
      by false m less h = let l = less (λ e. m (+ℤ_idl (coefficient eq v k) ∙ e)) in omega (arith, l)

  unlike : (a b : K) → eq a b ≡ false → a ≡ b → ⊥
  unlike a b e same =
      let t : IsTrue (eq a b) = subst (λ (x : K). IsTrue (eq a x)) same (test.reflexive a) in
      let f : false ≡ true = sym e ∙ t in
      cc

  unlike_back : (a b : K) → (a ≡ b → ⊥) → (c : Bool) → eq a b ≡ c → c ≡ false
  unlike_back a b n true e = absurd (n (test.sound a b e))
  unlike_back a b n false e = refl

  -- at k nothing is left
  pub coefficient-left_out : (k : K) (v : FormalSum K) → coefficient eq (without k v) k ≡ pos 0
  coefficient-left_out k [] = refl
  coefficient-left_out k (t ∷ v) = by (eq t.1 k) refl (coefficient-left_out k v)
    where
      by : (b : Bool) → eq t.1 k ≡ b → coefficient eq (without k v) k ≡ pos 0 → coefficient eq (if b then without k v else t ∷ without k v) k ≡ pos 0
      by true e h = h
      by false e h = rw e (+ℤ_idl (coefficient eq (without k v) k) ∙ h)

  -- at other keys all is
  pub coefficient-kept : (k x : K) (v : FormalSum K) → (x ≡ k → ⊥) → coefficient eq (without k v) x ≡ coefficient eq v x
  coefficient-kept k x [] n = refl
  coefficient-kept k x (t ∷ v) n = by (eq t.1 k) refl (coefficient-kept k x v n)
    where
      by : (b : Bool) → eq t.1 k ≡ b → coefficient eq (without k v) x ≡ coefficient eq v x
          → coefficient eq (if b then without k v else t ∷ without k v) x ≡ coefficient eq (t ∷ v) x
      by true e h =
          let is : t.1 ≡ k = test.sound t.1 k e in
          let f : eq t.1 x ≡ false = unlike_back t.1 x (λ p. n (sym p ∙ is)) (eq t.1 x) refl in
          rw f (h ∙ sym (+ℤ_idl (coefficient eq v x)))
      by false e h = ap (λ z. (if eq t.1 x then t.0 else pos 0) +ℤ z) h

  all_without : (P : K → Type 0) (k : K) (v : FormalSum K) → AllByRecursion (λ t. P t.1) v → AllByRecursion (λ t. P t.1) (without k v)
  all_without P k [] all = tt
  all_without P k (t ∷ v) all = by (eq t.1 k) (all_without P k v all.1)
    where
      by : (b : Bool) → AllByRecursion (λ t. P t.1) (without k v) → AllByRecursion (λ t. P t.1) (if b then without k v else t ∷ without k v)
      by true h = h
      by false h = (all.0, h)

  -- a key with a coefficient stands in the sum
  key_found : (P : K → Type 0) (k : K) (v : FormalSum K) → coefficient eq v k ≢ pos 0 → AllByRecursion (λ t. P t.1) v → P k
  key_found P k [] n all = absurd (n refl)
  key_found P k (t ∷ v) n all = by (eq t.1 k) refl n (λ m. key_found P k v m all.1)
    where
      by : (b : Bool) → eq t.1 k ≡ b → ((if b then t.0 else pos 0) +ℤ coefficient eq v k ≢ pos 0) → (coefficient eq v k ≢ pos 0 → P k) → P k
      by true e m rest = subst P (test.sound t.1 k e) all.0
      by false e m rest = rest (λ z. m (+ℤ_idl (coefficient eq v k) ∙ z))

module _ {K : Type 0} {eq : K → K → Bool} (test : IsEqualityTest eq) {Below : K → K → Type 0} (order : IsStrictOrder Below) where
  -- without the first term on both sides the sums stay the same
  same_rest : (t : ℤ × K) (v w : FormalSum K) → Falling Below (t ∷ v) → Same eq (t ∷ v) w → Same eq v (without test t.1 w)
  same_rest t v w f e x = by (eq x t.1) refl
    where
      by : (b : Bool) → eq x t.1 ≡ b → coefficient eq v x ≡ coefficient eq (without test t.1 w) x
      by true c =
          let is : x ≡ t.1 = test.sound x t.1 c in
          ap (coefficient eq v) is ∙ (coefficient-above test order t.1 v f.0 ∙ sym (ap (coefficient eq (without test t.1 w)) is
          ∙ coefficient-left_out test t.1 w))
      by false c =
          let other : x ≡ t.1 → ⊥ = unlike test x t.1 c in
          let other' : eq t.1 x ≡ false = unlike_back test t.1 x (λ p. other (sym p)) (eq t.1 x) refl in
          let whole : coefficient eq (t ∷ v) x ≡ coefficient eq v x = rw other' (+ℤ_idl (coefficient eq v x)) in
          sym whole ∙ (e x ∙ sym (coefficient-kept test t.1 x w other))

  first_coefficient : (t : ℤ × K) (v w : FormalSum K) → Falling Below (t ∷ v) → Same eq (t ∷ v) w → coefficient eq w t.1 ≡ t.0
  first_coefficient t v w f e = sym (e t.1) ∙ coefficient-first test order t v f.0

  pub falling_shortest : (v w : FormalSum K) → Falling Below v → NonZero v → Same eq v w → length v ≤ length w
  falling_shortest [] w f n e = omega arith
  falling_shortest (t ∷ v) w f n e =
      let less = shorter test t.1 w (λ z. n.0 (sym (first_coefficient t v w f e) ∙ z)) in
      let rest = falling_shortest v (without test t.1 w) f.1 n.1 (same_rest t v w f e) in
      omega (arith, less, rest)

  -- its keys are keys of every sum that is the same
  pub falling_keys : (P : K → Type 0) (v w : FormalSum K) → Falling Below v → NonZero v → Same eq v w → AllByRecursion (λ t. P t.1) w
      → AllByRecursion (λ t. P t.1) v
  falling_keys P [] w f n e all = tt
  falling_keys P (t ∷ v) w f n e all = (
    key_found test P t.1 w (λ z. n.0 (sym (first_coefficient t v w f e) ∙ z)) all,
    falling_keys P v (without test t.1 w) f.1 n.1 (same_rest t v w f e) (all_without test P t.1 w all),
  )
