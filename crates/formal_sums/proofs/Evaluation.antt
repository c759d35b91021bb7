-- The universal property of formal sums: an additive map sees the coefficients alone.
use Rattle.std.proofs.Common.{◌≡◌, ℕ, suc, zero, ◌+◌, ◌≤◌, Bool, true, false, cond, ℤ, pos, negsuc, ◌+ℤ◌, ◌*ℤ◌, [], ◌∷◌, ◌++◌, length, refl, sym, ap, subst}
use Rattle.std.proofs.Common.{◌∙◌, arith, append_assoc}
use Rattle.std.proofs.Math.IntN.{+ℤ_assoc, +ℤ_comm, +ℤ_idl, zero-*ℤ, *ℤ_comm}
use borrow.Author.Differences.{ints}
use Rattle.formal_sums.specs.Evaluation.{Addition, IsAdditive, Extends, evaluate, integer_addition, sum_addition}
use Rattle.formal_sums.specs.FormalSum.{FormalSum, coefficient, Same, scale, rename}
use Rattle.formal_sums.specs.Keys.{IsEqualityTest}
use Rattle.formal_sums.proofs.Coefficients.{coefficient-append, coefficient-scale, Same-append}
use Rattle.formal_sums.proofs.Integers.{+ℤ-*ℤ, one-*ℤ}
use Rattle.formal_sums.proofs.Keys.{eq-same}

-- ---- the additive map that extends f, and the only one
module _ {K C : Type 0} {addition : Addition C} {Alike : C → C → Type 0} (laws : IsAdditive addition Alike) (f : K → C) where
  pub evaluate-append : (v w : FormalSum K) → Alike (evaluate addition f (v ++ w)) (addition.plus (evaluate addition f v) (evaluate addition f w))
  evaluate-append [] w = laws.symmetric _ _ (laws.unit-plus _)
  evaluate-append (t ∷ v) w = laws.transitive _ _ _ (laws.plus_congruent _ _ _ _ (laws.reflexive _) (evaluate-append v w))
      (laws.symmetric _ _ (laws.plus_assoc _ _ _))

  pub evaluate_extends : Extends addition Alike f (evaluate addition f)
  evaluate_extends = record {
    empty = laws.reflexive _;
    append = evaluate-append;
    single = λ q k. laws.transitive _ _ _ (laws.plus_comm _ _) (laws.unit-plus _);
  }

  pub evaluate_unique : (g : FormalSum K → C) → Extends addition Alike f g → (v : FormalSum K) → Alike (g v) (evaluate addition f v)
  evaluate_unique g extends [] = extends.empty
  evaluate_unique g extends (t ∷ v) = laws.transitive _ _ _ (extends.append (t ∷ []) v)
      (laws.plus_congruent _ _ _ _ (extends.single t.0 t.1) (evaluate_unique g extends v))

-- ---- the terms at other keys
module _ {K : Type 0} {eq : K → K → Bool} (test : IsEqualityTest eq) where
  abbrev others : K → FormalSum K → FormalSum K
  others k [] = []
  others k (t ∷ v) = cond (eq t.1 k) (others k v) (t ∷ others k v)

  length-others : (k : K) (v : FormalSum K) → length (others k v) ≤ length v
  length-others k [] = omega arith
  length-others k (t ∷ v) = by (length-others k v) (eq t.1 k)
    where
      by : length (others k v) ≤ length v → (b : Bool) → length (cond b (others k v) (t ∷ others k v)) ≤ suc (length v)
      by ih true = omega arith
      by ih false = omega arith

  fewer : (t : ℤ × K) (v : FormalSum K) → length (others t.1 (t ∷ v)) ≤ length v
  fewer t v = rw (test.reflexive t.1) (length-others t.1 v)

  coefficient-others : (k : K) (v : FormalSum K) (m : K) → coefficient eq (others k v) m +ℤ cond (eq k m) (coefficient eq v k) (pos 0) ≡ coefficient eq v m
  coefficient-others k [] m = by (eq k m)
    where
      by : (b : Bool) → pos 0 +ℤ cond b (pos 0) (pos 0) ≡ pos 0
      by true = refl
      by false = refl
  coefficient-others k (t ∷ v) m = by (coefficient-others k v m) (eq t.1 k) refl (eq k m) refl
    where
      by : coefficient eq (others k v) m +ℤ cond (eq k m) (coefficient eq v k) (pos 0) ≡ coefficient eq v m → (b : Bool) → eq t.1 k ≡ b → (c : Bool)
          → eq k m ≡ c → coefficient eq (cond b (others k v) (t ∷ others k v)) m +ℤ cond c (cond b t.0 (pos 0) +ℤ coefficient eq v k) (pos 0)
          ≡ cond (eq t.1 m) t.0 (pos 0) +ℤ coefficient eq v m
      by h true e true f =
          let h' : coefficient eq (others k v) m +ℤ coefficient eq v k ≡ coefficient eq v m = rw f at h in
          let g : eq t.1 m ≡ true = sym (eq-same test t.1 k m e) ∙ f in
          rw g (omega (arith, ints))
      by h true e false f =
          let h' : coefficient eq (others k v) m +ℤ pos 0 ≡ coefficient eq v m = rw f at h in
          let g : eq t.1 m ≡ false = sym (eq-same test t.1 k m e) ∙ f in
          rw g (omega (arith, ints))
      by h false e true f =
          let h' : coefficient eq (others k v) m +ℤ coefficient eq v k ≡ coefficient eq v m = rw f at h in
          omega (arith, ints)
      by h false e false f =
          let h' : coefficient eq (others k v) m +ℤ pos 0 ≡ coefficient eq v m = rw f at h in
          omega (arith, ints)

  Same-others : (k : K) (v w : FormalSum K) → Same eq v w → Same eq (others k v) (others k w)
  Same-others k v w z m = by (eq k m) (coefficient-others k v m) (coefficient-others k w m)
    where
      by : (b : Bool) → coefficient eq (others k v) m +ℤ cond b (coefficient eq v k) (pos 0) ≡ coefficient eq v m
          → coefficient eq (others k w) m +ℤ cond b (coefficient eq w k) (pos 0) ≡ coefficient eq w m
          → coefficient eq (others k v) m ≡ coefficient eq (others k w) m
      by true e f = omega (arith, ints, z k, z m)
      by false e f = omega (arith, ints, z m)

  -- ---- into any values that add up
  module _ {C : Type 0} {addition : Addition C} {Alike : C → C → Type 0} (laws : IsAdditive addition Alike) (f : K → C) where
    abbrev value : FormalSum K → C
    value v = evaluate addition f v

    abbrev multiple : ℤ → K → C
    multiple q k = addition.times q (f k)

    -- a value is its part at k and the rest
    evaluate-others : (k : K) (v : FormalSum K) → Alike (value v) (addition.plus (multiple (coefficient eq v k) k) (value (others k v)))
    evaluate-others k [] = laws.symmetric _ _ (laws.transitive _ _ _ (laws.plus_congruent _ _ _ _ (laws.zero-times (f k)) (laws.reflexive _))
        (laws.unit-plus _))
    evaluate-others k (t ∷ v) = by (evaluate-others k v) (eq t.1 k) refl
      where
        by : Alike (value v) (addition.plus (multiple (coefficient eq v k) k) (value (others k v))) → (b : Bool) → eq t.1 k ≡ b
            → Alike (addition.plus (multiple t.0 t.1) (value v)) (addition.plus (multiple (cond b t.0 (pos 0) +ℤ coefficient eq v k) k)
            (value (cond b (others k v) (t ∷ others k v))))
        by ih true e =
            rw (test.sound t.1 k e)
            (laws.transitive _ _ _ (laws.plus_congruent _ _ _ _ (laws.reflexive _) ih)
            (laws.transitive _ _ _ (laws.symmetric _ _ (laws.plus_assoc _ _ _))
            (laws.plus_congruent _ _ _ _ (laws.symmetric _ _ (laws.add-times _ _ _)) (laws.reflexive _))))
        by ih false e =
            rw (+ℤ_idl (coefficient eq v k))
            (laws.transitive _ _ _ (laws.plus_congruent _ _ _ _ (laws.reflexive _) ih)
            (laws.transitive _ _ _ (laws.symmetric _ _ (laws.plus_assoc _ _ _))
            (laws.transitive _ _ _ (laws.plus_congruent _ _ _ _ (laws.plus_comm _ _) (laws.reflexive _))
            (laws.plus_assoc _ _ _))))

    at_key : (v w : FormalSum K) (k : K) → Same eq v w → Alike (value (others k v)) (value (others k w)) → Alike (value v) (value w)
    at_key v w k z h =
        laws.transitive _ _ _ (evaluate-others k v)
        (laws.transitive _ _ _ (subst (λ (q : ℤ). Alike (addition.plus (multiple (coefficient eq v k) k) (value (others k v)))
        (addition.plus (multiple q k) (value (others k w)))) (z k) (laws.plus_congruent _ _ _ _ (laws.reflexive _) h))
        (laws.symmetric _ _ (evaluate-others k w)))

    same_to : (n : ℕ) (v w : FormalSum K) → length v + length w ≤ n → Same eq v w → Alike (value v) (value w)
    same_to n [] [] h z = laws.reflexive _
    same_to zero (t ∷ v) w h z = absurd (omega arith)
    same_to zero [] (t ∷ w) h z = absurd (omega arith)
    same_to (suc n) (t ∷ v) w h z = at_key (t ∷ v) w t.1 z (same_to n (others t.1 (t ∷ v)) (others t.1 w) (omega (arith, fewer t v, length-others t.1 w))
        (Same-others t.1 (t ∷ v) w z))
    same_to (suc n) [] (t ∷ w) h z = at_key [] (t ∷ w) t.1 z (same_to n [] (others t.1 (t ∷ w)) (omega (arith, fewer t w)) (Same-others t.1 [] (t ∷ w) z))

    -- THE UNIVERSAL PROPERTY: sums with the same coefficients have the same value
    pub evaluate-same : (v w : FormalSum K) → Same eq v w → Alike (value v) (value w)
    evaluate-same v w z = same_to (length v + length w) v w (omega arith) z

    -- a multiple of a sum with the value 0 has the value 0
    unit-append : (v w : FormalSum K) → Alike (value v) addition.unit → Alike (value (v ++ w)) (value w)
    unit-append v w h = laws.transitive _ _ _ (evaluate-append laws f v w) (laws.transitive _ _ _ (laws.plus_congruent _ _ _ _ h (laws.reflexive _))
        (laws.unit-plus _))

    more : (p q : ℤ) (v : FormalSum K) → q ≡ pos 1 +ℤ p → Same eq (scale q v) (v ++ scale p v)
    more p q v e m =
        coefficient-scale eq q v m
        ∙ ap (λ z. z *ℤ coefficient eq v m) e
        ∙ +ℤ-*ℤ (pos 1) p (coefficient eq v m)
        ∙ (λ i. one-*ℤ (coefficient eq v m) i +ℤ sym (coefficient-scale eq p v m) i)
        ∙ sym (coefficient-append eq v (scale p v) m)

    scale_none : (v : FormalSum K) → Alike (value (scale (pos 0) v)) addition.unit
    scale_none v = evaluate-same (scale (pos 0) v) [] (λ m. coefficient-scale eq (pos 0) v m ∙ zero-*ℤ (coefficient eq v m))

    -- one factor more or less, from p to q = 1 + p
    scale_up : (p q : ℤ) (v : FormalSum K) → q ≡ pos 1 +ℤ p → Alike (value v) addition.unit → Alike (value (scale p v)) addition.unit
        → Alike (value (scale q v)) addition.unit
    scale_up p q v e h g = laws.transitive _ _ _ (evaluate-same (scale q v) (v ++ scale p v) (more p q v e))
        (laws.transitive _ _ _ (unit-append v (scale p v) h) g)

    scale_down : (p q : ℤ) (v : FormalSum K) → q ≡ pos 1 +ℤ p → Alike (value v) addition.unit → Alike (value (scale q v)) addition.unit
        → Alike (value (scale p v)) addition.unit
    scale_down p q v e h g = laws.transitive _ _ _ (laws.symmetric _ _ (unit-append v (scale p v) h))
        (laws.transitive _ _ _ (laws.symmetric _ _ (evaluate-same (scale q v) (v ++ scale p v) (more p q v e))) g)

    pub evaluate-scale_unit : (q : ℤ) (v : FormalSum K) → Alike (value v) addition.unit → Alike (value (scale q v)) addition.unit
    evaluate-scale_unit (pos zero) v h = scale_none v
    evaluate-scale_unit (pos (suc k)) v h = scale_up (pos k) (pos (suc k)) v (omega (arith, ints)) h (evaluate-scale_unit (pos k) v h)
    evaluate-scale_unit (negsuc zero) v h = scale_down (negsuc 0) (pos 0) v (omega (arith, ints)) h (scale_none v)
    evaluate-scale_unit (negsuc (suc k)) v h = scale_down (negsuc (suc k)) (negsuc k) v (omega (arith, ints)) h (evaluate-scale_unit (negsuc k) v h)

-- ---- into the integers
pub integers_additive : IsAdditive integer_addition (λ a b. a ≡ b)
integers_additive = record {
  reflexive = λ a. refl;
  symmetric = λ a b e. sym e;
  transitive = λ a b c e f. e ∙ f;
  plus_congruent = λ a b c d e f i. e i +ℤ f i;
  plus_assoc = +ℤ_assoc;
  plus_comm = +ℤ_comm;
  unit-plus = +ℤ_idl;
  zero-times = zero-*ℤ;
  add-times = +ℤ-*ℤ;
}

-- ---- into formal sums over other keys
pub sums_additive : {J : Type 0} (eq : J → J → Bool) → IsAdditive sum_addition (Same eq)
sums_additive eq = record {
  reflexive = λ v k. refl;
  symmetric = λ v w h k. sym (h k);
  transitive = λ u v w h g k. h k ∙ g k;
  plus_congruent = Same-append eq;
  plus_assoc = λ u v w k. ap (λ z. coefficient eq z k) (append_assoc u v w);
  plus_comm = λ v w k. coefficient-append eq v w k ∙ +ℤ_comm (coefficient eq v k) (coefficient eq w k) ∙ sym (coefficient-append eq w v k);
  unit-plus = λ v k. refl;
  zero-times = λ v k. coefficient-scale eq (pos 0) v k ∙ zero-*ℤ (coefficient eq v k);
  add-times = λ p q v k.
      coefficient-scale eq (p +ℤ q) v k
      ∙ +ℤ-*ℤ p q (coefficient eq v k)
      ∙ (λ i. sym (coefficient-scale eq p v k) i +ℤ sym (coefficient-scale eq q v k) i)
      ∙ sym (coefficient-append eq (scale p v) (scale q v) k);
}

-- ---- renaming
module _ {K J : Type 0} (eq' : J → J → Bool) (f : K → J) where
  -- 1 for the keys that become j
  abbrev pub becomes : J → K → ℤ
  becomes j k = cond (eq' (f k) j) (pos 1) (pos 0)

  -- the coefficient of j adds up the terms whose keys become j
  pub coefficient-rename : (v : FormalSum K) (j : J) → coefficient eq' (rename f v) j ≡ evaluate integer_addition (becomes j) v
  coefficient-rename [] j = refl
  coefficient-rename (t ∷ v) j = λ i. by t.0 (eq' (f t.1) j) i +ℤ coefficient-rename v j i
    where
      by : (q : ℤ) (b : Bool) → cond b q (pos 0) ≡ q *ℤ cond b (pos 1) (pos 0)
      by q true = sym (*ℤ_comm q (pos 1) ∙ one-*ℤ q)
      by q false = omega (arith, ints)

pub Same-rename : {K J : Type 0} {eq : K → K → Bool} (test : IsEqualityTest eq) (eq' : J → J → Bool) (f : K → J) (v w : FormalSum K) → Same eq v w
    → Same eq' (rename f v) (rename f w)
Same-rename test eq' f v w h j = coefficient-rename eq' f v j ∙ evaluate-same test integers_additive (becomes eq' f j) v w h
    ∙ sym (coefficient-rename eq' f w j)

pub evaluate-rename : {K J C : Type 0} (addition : Addition C) (g : J → C) (f : K → J) (v : FormalSum K)
    → evaluate addition g (rename f v) ≡ evaluate addition (λ k. g (f k)) v
evaluate-rename addition g f [] = refl
evaluate-rename addition g f (t ∷ v) = ap (λ z. addition.plus (addition.times t.0 (g (f t.1))) z) (evaluate-rename addition g f v)

-- keys that stay apart keep their coefficients
pub coefficient-rename_apart : {K J : Type 0} (eq : K → K → Bool) (eq' : J → J → Bool) (f : K → J) → ((a b : K) → eq' (f a) (f b) ≡ eq a b)
    → (v : FormalSum K) (k : K) → coefficient eq' (rename f v) (f k) ≡ coefficient eq v k
coefficient-rename_apart eq eq' f apart [] k = refl
coefficient-rename_apart eq eq' f apart (t ∷ v) k = λ i. cond (apart t.1 k i) t.0 (pos 0) +ℤ coefficient-rename_apart eq eq' f apart v k i

-- a key that no key becomes has the coefficient 0
pub coefficient-rename_outside : {K J : Type 0} (eq' : J → J → Bool) (f : K → J) (j : J) → ((k : K) → eq' (f k) j ≡ false) → (v : FormalSum K)
    → coefficient eq' (rename f v) j ≡ pos 0
coefficient-rename_outside eq' f j none [] = refl
coefficient-rename_outside eq' f j none (t ∷ v) = rw (none t.1) (+ℤ_idl (coefficient eq' (rename f v) j) ∙ coefficient-rename_outside eq' f j none v)
