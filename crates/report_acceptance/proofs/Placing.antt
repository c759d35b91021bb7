-- The places of Fox vectors of words within the limit, and of chains from there on, are in reach.
use Rattle.std.proofs.Common.{◌≡◌, ◌≢◌, ℕ, ◌+◌, ◌≤◌, Bool, true, false, ℤ, pos, negsuc, if◌then◌else◌, List, [], ◌∷◌, ◌++◌, length, refl, sym, subst, ◌∙◌}
use Rattle.std.proofs.Common.{arith}
use Rattle.std.proofs.Math.IntN.{+ℤ_idl}
use Rattle.std.specs.List.{AllByRecursion}
use Rattle.free_words.specs.declared.letter.Letter.{Letter}
use Rattle.free_words.specs.declared.TheConstants.{COMPOSED}
use Rattle.free_words.specs.Words.{IsOver}
use Rattle.free_words.proofs.OverLemmas.{IsOver-append}
use Rattle.formal_sums.specs.FormalSum.{FormalSum, coefficient}
use Rattle.laurent_terms.specs.Monomials.{IsMonomial}
use Rattle.laurent_terms.proofs.IntegerVectors.{monomial_of_is}
use Rattle.module_vec.specs.declared.places.Place.{Place}
use Rattle.module_vec.specs.declared.places.Term.{Term}
use Rattle.module_vec.specs.Places.{same_place, IsPlace}
use Rattle.module_vec.specs.Vectors.{Coefficients, sum_of, IsTerm}
use Rattle.module_vec.specs.Results.{HasTerms}
use Rattle.module_vec.proofs.Order.{test}
use Rattle.fox_calculus.specs.Fox.{exponent_sums, image, place_of, letter_term, fox_after, fox}
use Rattle.fox_calculus.proofs.Sums.{sums_length, image_small}
use Rattle.hom_check.specs.Shown.{fox_at}

-- each place with a coefficient is in reach
abbrev pub IsPlaced : Coefficients → Type 0
IsPlaced f = (x : Place) → f x ≢ pos 0 → IsPlace x

-- a place whose coefficient isn't 0 stands in the sum
pub stands : (P : Place → Type 0) (f : FormalSum Place) (x : Place) → AllByRecursion (λ t. P t.1) f → coefficient same_place f x ≢ pos 0 → P x
stands P [] x h some = absurd (some refl)
stands P (t ∷ f) x h some = by (same_place t.1 x) refl (stands P f x h.1) where
  by : (b : Bool) → same_place t.1 x ≡ b → (coefficient same_place f x ≢ pos 0 → P x) → P x
  by true e again = subst P (test.sound t.1 x e) h.0
  by false e again = again (λ z. some (rw e (+ℤ_idl (coefficient same_place f x) ∙ z)))

-- ---- Fox vectors

image_is : (u : List Letter) → IsOver 24 u → length u ≤ COMPOSED → IsMonomial (image u)
image_is u over short = monomial_of_is (exponent_sums u) (let n = sums_length u in omega (arith, n)) (image_small (exponent_sums u) u refl over short)

either_place : (a b : ℤ × Place) (c : Bool) → IsPlace a.1 → IsPlace b.1 → IsPlace ((if c then a else b).1)
either_place a b true h k = h
either_place a b false h k = k

letter_placed : (u : List Letter) (l : Letter) → IsMonomial (image (u ++ l ∷ [])) → IsMonomial (image u) → IsPlace (letter_term u l).1
letter_placed u l h k = either_place (negsuc 0, place_of (u ++ l ∷ []) l.g) (pos 1, place_of u l.g) l.inv h k

length_next : (u : List Letter) (l : Letter) → length (u ++ l ∷ []) ≡ length u + 1
length_next [] l = refl
length_next (k ∷ u) l = let e = length_next u l in omega (arith, e)

all_placed : (u w : List Letter) → IsOver 24 u → IsOver 24 w → length u + length w ≤ COMPOSED → AllByRecursion (λ t. IsPlace t.1) (fox_after u w)
all_placed u [] a b short = tt
all_placed u (l ∷ w) a b short =
    let over : IsOver 24 (u ++ l ∷ []) = IsOver-append 24 u (l ∷ []) a (b.0, tt) in
    let longer = length_next u l in (
      letter_placed u l (image_is (u ++ l ∷ []) over (omega (arith, short, longer))) (image_is u a (omega (arith, short))),
      all_placed (u ++ l ∷ []) w over b.1 (omega (arith, short, longer)),
    )

pub fox_placed : (w : List Letter) → IsOver 24 w → length w ≤ COMPOSED → IsPlaced (fox_at w)
fox_placed w over short x some = stands IsPlace (fox w) x (all_placed [] w tt over (omega (arith, short))) some

-- ---- written vectors

as_sum : (v : List Term) → AllByRecursion IsTerm v → AllByRecursion (λ t. IsPlace t.1) (sum_of v)
as_sum [] h = tt
as_sum (t ∷ v) h = (h.0.place, as_sum v h.1)

pub written_placed : (f : Coefficients) (n : ℕ) → HasTerms f n → IsPlaced f
written_placed f n h x some = stands IsPlace (sum_of h.v) x (as_sum h.v h.sparse.terms) (λ z. some (sym (h.is x) ∙ z))
