-- Strictly falling sums with no zero coefficient: the coefficients determine the list.
use Rattle.std.proofs.Common.{◌≡◌, ◌≢◌, Bool, cond, ℤ, pos, ◌+ℤ◌, List, [], ◌∷◌, ◌++◌, map, ◌⊎◌, inl, inr, refl, sym, ap, ◌∙◌, arith}
use Rattle.std.proofs.Math.IntN.{+ℤ_idl, +ℤ_idr}
use Rattle.std.specs.List.{AllByRecursion}
use borrow.Author.Differences.{ints}
use Rattle.formal_sums.specs.FormalSum.{FormalSum, coefficient, Same, scale, rename, AllBelow, AllAbove, Falling, NonZero}
use Rattle.formal_sums.specs.Keys.{IsEqualityTest, IsStrictOrder}
use Rattle.formal_sums.proofs.Integers.{*ℤ-eq-zero}
use Rattle.formal_sums.proofs.Keys.{eq-below, eq-above}

module _ {K : Type 0} {eq : K → K → Bool} (test : IsEqualityTest eq) {Below : K → K → Type 0} (order : IsStrictOrder Below) where
  -- above all its keys a sum has the coefficient 0
  pub coefficient-above : (p : K) (v : FormalSum K) → AllBelow Below p v → coefficient eq v p ≡ pos 0
  coefficient-above p [] below = refl
  coefficient-above p (t ∷ v) below = rw (eq-below test order t.1 p below.0) (+ℤ_idl (coefficient eq v p) ∙ coefficient-above p v below.1)

  -- and below all its keys
  pub coefficient-below : (p : K) (v : FormalSum K) → AllAbove Below p v → coefficient eq v p ≡ pos 0
  coefficient-below p [] above = refl
  coefficient-below p (t ∷ v) above = rw (eq-above test order t.1 p above.0) (+ℤ_idl (coefficient eq v p) ∙ coefficient-below p v above.1)

  pub AllBelow_transitive : (p q : K) → Below p q → (v : FormalSum K) → AllBelow Below p v → AllBelow Below q v
  AllBelow_transitive p q h [] below = tt
  AllBelow_transitive p q h (t ∷ v) below = (order.transitive t.1 p q below.0 h, AllBelow_transitive p q h v below.1)

  pub AllAbove_transitive : (p q : K) → Below q p → (v : FormalSum K) → AllAbove Below p v → AllAbove Below q v
  AllAbove_transitive p q h [] above = tt
  AllAbove_transitive p q h (t ∷ v) above = (order.transitive q p t.1 h above.0, AllAbove_transitive p q h v above.1)

  -- at the first key stands the first coefficient
  pub coefficient-first : (t : ℤ × K) (v : FormalSum K) → AllBelow Below t.1 v → coefficient eq (t ∷ v) t.1 ≡ t.0
  coefficient-first t v below = rw (test.reflexive t.1) (ap (λ z. t.0 +ℤ z) (coefficient-above t.1 v below) ∙ +ℤ_idr t.0)

  -- and above it nothing
  pub coefficient-above_first : (t : ℤ × K) (v : FormalSum K) (p : K) → AllBelow Below t.1 v → Below t.1 p → coefficient eq (t ∷ v) p ≡ pos 0
  coefficient-above_first t v p below h = coefficient-above p (t ∷ v) (h, AllBelow_transitive t.1 p h v below)

  -- the first term cancels
  Same-rest : (t : ℤ × K) (v w : FormalSum K) → Same eq (t ∷ v) (t ∷ w) → Same eq v w
  Same-rest t v w e k = by (cond (eq t.1 k) t.0 (pos 0)) (coefficient eq v k) (coefficient eq w k) (e k)
    where
      by : (a b c : ℤ) → a +ℤ b ≡ a +ℤ c → b ≡ c
      by a b c e = omega (arith, ints)

  -- a falling sum with no zero coefficient is 0 as the empty list alone
  first_is_zero : (t : ℤ × K) (v : FormalSum K) → AllBelow Below t.1 v → coefficient eq (t ∷ v) t.1 ≡ pos 0 → t.0 ≡ pos 0
  first_is_zero t v below e = sym (coefficient-first t v below) ∙ e

  -- THE COEFFICIENTS DETERMINE A FALLING SUM
  pub falling_same : (v w : FormalSum K) → Falling Below v → NonZero v → Falling Below w → NonZero w → Same eq v w → v ≡ w
  falling_same [] [] f n g m e = refl
  falling_same [] (s ∷ w) f n g m e = absurd (m.0 (first_is_zero s w g.0 (sym (e s.1))))
  falling_same (t ∷ v) [] f n g m e = absurd (n.0 (first_is_zero t v f.0 (e t.1)))
  falling_same (t ∷ v) (s ∷ w) f n g m e = by (order.total t.1 s.1) (falling_same v w f.1 n.1 g.1 m.1)
    where
      by : (t.1 ≡ s.1) ⊎ (Below t.1 s.1 ⊎ Below s.1 t.1) → (Same eq v w → v ≡ w) → t ∷ v ≡ s ∷ w
      by (inr (inl h)) rest = absurd (m.0 (first_is_zero s w g.0 (sym (e s.1) ∙ coefficient-above_first t v s.1 f.0 h)))
      by (inr (inr h)) rest = absurd (n.0 (first_is_zero t v f.0 (e t.1 ∙ coefficient-above_first s w t.1 g.0 h)))
      by (inl p) rest =
          let q : t.0 ≡ s.0 = sym (coefficient-first t v f.0) ∙ e t.1 ∙ ap (coefficient eq (s ∷ w)) p ∙ coefficient-first s w g.0 in
          let first : t ≡ s = λ i. (q i, p i) in
          λ i. first i ∷ rest (Same-rest t v w (λ k. e k ∙ ap (λ z. coefficient eq (z ∷ w) k) (sym first))) i

-- ---- what keeps these properties
module _ {K : Type 0} where
  -- a term below all others may follow them
  pub Falling-push : (Below : K → K → Type 0) (v : FormalSum K) (t : ℤ × K) → Falling Below v → AllAbove Below t.1 v → Falling Below (v ++ t ∷ [])
  Falling-push Below [] t f above = (tt, tt)
  Falling-push Below (s ∷ v) t f above = (by v f.0, Falling-push Below v t f.1 above.1)
    where
      by : (w : FormalSum K) → AllBelow Below s.1 w → AllBelow Below s.1 (w ++ t ∷ [])
      by [] below = (above.0, tt)
      by (u ∷ w) below = (below.0, by w below.1)

  pub NonZero-scale : (q : ℤ) → q ≢ pos 0 → (v : FormalSum K) → NonZero v → NonZero (scale q v)
  NonZero-scale q h [] n = tt
  NonZero-scale q h (t ∷ v) n = ((λ e. by (*ℤ-eq-zero q t.0 e)), NonZero-scale q h v n.1)
    where
      by : (q ≡ pos 0) ⊎ (t.0 ≡ pos 0) → ⊥
      by (inl e) = h e
      by (inr e) = n.0 e

  pub AllBelow-scale : (Below : K → K → Type 0) (p : K) (q : ℤ) (v : FormalSum K) → AllBelow Below p v → AllBelow Below p (scale q v)
  AllBelow-scale Below p q [] below = tt
  AllBelow-scale Below p q (t ∷ v) below = (below.0, AllBelow-scale Below p q v below.1)

  pub Falling-scale : (Below : K → K → Type 0) (q : ℤ) (v : FormalSum K) → Falling Below v → Falling Below (scale q v)
  Falling-scale Below q [] f = tt
  Falling-scale Below q (t ∷ v) f = (AllBelow-scale Below t.1 q v f.0, Falling-scale Below q v f.1)

  pub NonZero-rename : {J : Type 0} (f : K → J) (v : FormalSum K) → NonZero v → NonZero (rename f v)
  NonZero-rename f [] n = tt
  NonZero-rename f (t ∷ v) n = (n.0, NonZero-rename f v n.1)

-- a renaming that keeps the order among the keys that have the property In
module _ {K J : Type 0} (Below : K → K → Type 0) (Below' : J → J → Type 0) (In : K → Type 0) (f : K → J) (kept : (a b : K) → In a → In b → Below a b
    → Below' (f a) (f b)) where
  pub AllBelow-rename : (p : K) (v : FormalSum K) → In p → AllByRecursion (λ t. In t.1) v → AllBelow Below p v → AllBelow Below' (f p) (rename f v)
  AllBelow-rename p [] i a below = tt
  AllBelow-rename p (t ∷ v) i a below = (kept t.1 p a.0 i below.0, AllBelow-rename p v i a.1 below.1)

  pub Falling-rename : (v : FormalSum K) → AllByRecursion (λ t. In t.1) v → Falling Below v → Falling Below' (rename f v)
  Falling-rename [] a h = tt
  Falling-rename (t ∷ v) a h = (AllBelow-rename t.1 v a.0 a.1 h.0, Falling-rename v a.1 h.1)

-- lists of terms of another type are equal where the sums that they are read as are
pub map_injective : {A B : Type 0} (f : A → B) → ((x y : A) → f x ≡ f y → x ≡ y) → (xs ys : List A) → map f xs ≡ map f ys → xs ≡ ys
map_injective f h [] [] e = refl
map_injective f h [] (y ∷ ys) e = absurd cc
map_injective f h (x ∷ xs) [] e = absurd cc
map_injective f h (x ∷ xs) (y ∷ ys) e =
    let first : f x ≡ f y = cc in
    let rest : map f xs ≡ map f ys = cc in
    λ i. h x y first i ∷ map_injective f h xs ys rest i
