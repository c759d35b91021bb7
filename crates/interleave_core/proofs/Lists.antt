-- Lists one element of which is set.
use Rattle.std.proofs.Common.{◌≡◌, ◌≢◌, ◌⊎◌, inl, inr, ℕ, zero, suc, ◌+◌, List, [], ◌∷◌, ◌++◌, length, set, replicate, Some, slice_get}
use Rattle.std.proofs.Common.{arith, refl, sym, ap, ◌∙◌}

pub set_here : {A : Type 0} (xs : List A) (i : ℕ) (x y : A) → slice_get (set xs i x) i ≡ Some y → x ≡ y
set_here [] i x y at = absurd (cc)
set_here (a ∷ xs) zero x y at = cc
set_here (a ∷ xs) (suc i) x y at = set_here xs i x y at

pub set_apart : {A : Type 0} (xs : List A) (i j : ℕ) (x : A) → i ≢ j → slice_get (set xs i x) j ≡ slice_get xs j
set_apart [] i j x ne = refl
set_apart (a ∷ xs) zero zero x ne = absurd (ne refl)
set_apart (a ∷ xs) zero (suc j) x ne = refl
set_apart (a ∷ xs) (suc i) zero x ne = refl
set_apart (a ∷ xs) (suc i) (suc j) x ne = set_apart xs i j x (λ e. ne (ap suc e))

pub set_found : {A : Type 0} (xs : List A) (i : ℕ) (x y : A) → slice_get xs i ≡ Some y → slice_get (set xs i x) i ≡ Some x
set_found [] i x y at = absurd (cc)
set_found (a ∷ xs) zero x y at = refl
set_found (a ∷ xs) (suc i) x y at = set_found xs i x y at

pub same_some : {A : Type 0} (x y : A) → Some x ≡ Some y → x ≡ y
same_some x y e = cc

pub same_or_apart : (i j : ℕ) → (i ≡ j) ⊎ (i ≢ j)
same_or_apart zero zero = inl refl
same_or_apart zero (suc j) = inr (λ e. omega (arith, e))
same_or_apart (suc i) zero = inr (λ e. omega (arith, e))
same_or_apart (suc i) (suc j) = elim (same_or_apart i j) [
  | inl e ↦ inl (ap suc e)
  | inr ne ↦ inr (λ e. ne (omega (arith, e)))
]

pub none_left : {A : Type 0} (xs : List A) → length xs ≡ 0 → xs ≡ []
none_left [] e = refl
none_left (x ∷ xs) e = absurd (omega (arith, e))

pub all_the_same : {A : Type 0} (n i : ℕ) (x y : A) → slice_get (replicate n x) i ≡ Some y → x ≡ y
all_the_same zero i x y at = absurd (cc)
all_the_same (suc n) zero x y at = cc
all_the_same (suc n) (suc i) x y at = all_the_same n i x y at

pub replicate_more : {A : Type 0} (n : ℕ) (x : A) → replicate (n + 1) x ≡ replicate n x ++ x ∷ []
replicate_more zero x = refl
replicate_more {A} (suc n) x = let e : suc n + 1 ≡ suc (n + 1) = omega arith in
    ap (λ (k : ℕ). replicate k x) e ∙ ap (λ (l : List A). x ∷ l) (replicate_more n x)

pub set_still : {A : Type 0} (xs : List A) (i : ℕ) (x : A) → slice_get xs i ≡ Some x → set xs i x ≡ xs
set_still [] i x at = absurd (cc)
set_still {A} (a ∷ xs) zero x at = let e : a ≡ x = cc in ap (λ (z : A). z ∷ xs) (sym e)
set_still {A} (a ∷ xs) (suc i) x at = ap (λ (l : List A). a ∷ l) (set_still xs i x at)
