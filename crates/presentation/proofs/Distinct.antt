-- Names that differ from each other.
use Rattle.std.proofs.Common.{inl, inr, ◌≡◌, ◌||◌, ℕ, Bool, true, false, List, [], ◌∷◌, ◌++◌, refl, subst, Contains, arith}
use Rattle.std.specs.List.{list_any}
use Rattle.std.specs.Str.{bytes_eq}
use Rattle.std.proofs.lemmas.Slice.Eq.{bytes_eq-Decides}
use Rattle.std.proofs.lemmas.List.Elements.{Contains-push_cases, Contains-append_right}
use Rattle.presentation.specs.Presented.{AreDistinct}

same : (x y : List ℕ) → x ≡ y → bytes_eq x y ≡ true
same x y e = (bytes_eq-Decides x y).1 e

or_false : (a b : Bool) → (a || b) ≡ false → (a ≡ false) × (b ≡ false)
or_false true b e = cc
or_false false b e = (refl, e)

-- one more name that isn't among them
pub distinct_push : (seen : List (List ℕ)) (x : List ℕ) → AreDistinct seen → list_any (bytes_eq x) seen ≡ false → AreDistinct (seen ++ x ∷ [])
distinct_push [] x d e = ((λ c. absurd (omega (arith, c.1))), tt)
distinct_push (s ∷ ss) x d e =
    let o = or_false (bytes_eq x s) (list_any (bytes_eq x) ss) e in
    ((λ c. elim (Contains-push_cases ss x s c) [ inl h ↦ d.0 h | inr h ↦ absurd (cc (o.0, same x s h)) ]), distinct_push ss x d.1 o.1)

first_is_there : (x : List ℕ) (xs : List (List ℕ)) → Contains (x ∷ xs) x
first_is_there x xs = (0, omega arith, refl)

other_by : (x s : List ℕ) (ss new : List (List ℕ)) (b : Bool) → bytes_eq x s ≡ b → (Contains (ss ++ x ∷ new) s → ⊥) → bytes_eq x s ≡ false
other_by x s ss new true e apart =
    let same : x ≡ s = (bytes_eq-Decides x s).0 e in
    absurd (apart (subst (λ (y : List ℕ). Contains (ss ++ x ∷ new) y) same (Contains-append_right ss (x ∷ new) x (first_is_there x new))))
other_by x s ss new false e apart = e

-- a name isn't among those before it
pub distinct_before : (seen new : List (List ℕ)) (x : List ℕ) → AreDistinct (seen ++ x ∷ new) → list_any (bytes_eq x) seen ≡ false
distinct_before [] new x d = refl
distinct_before (s ∷ ss) new x d = rw (other_by x s ss new (bytes_eq x s) refl d.0, distinct_before ss new x d.1) refl
