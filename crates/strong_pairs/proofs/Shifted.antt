-- Multiples of entries: where their leads stand, and what steps with bounded lead places add up to.
use Rattle.std.proofs.Common.{◌≡◌, ℕ, ◌<◌, ℤ, pos, ◌*ℤ◌, List, [], ◌∷◌, ◌++◌, length, refl, sym, ap, subst, ◌∙◌, arith}
use borrow.Author.Differences.{ints}
use Rattle.std.specs.List.{AllByRecursion}
use Rattle.formal_sums.specs.FormalSum.{coefficient, rename, AllBelow}
use Rattle.formal_sums.proofs.Coefficients.{coefficient-scale}
use Rattle.formal_sums.proofs.Falling.{coefficient-first, coefficient-above_first, AllBelow-rename}
use Rattle.laurent_terms.specs.declared.TheConstants.{VARIABLES}
use Rattle.module_vec.specs.declared.places.Place.{Place}
use Rattle.module_vec.specs.declared.places.Term.{Term}
use Rattle.module_vec.specs.declared.steps.Step.{Step}
use Rattle.module_vec.specs.Chains.{taken_at}
use Rattle.module_vec.specs.Modules.{vector_at, steps_at, AreSteps}
use Rattle.module_vec.specs.Places.{IsBelow, same_place, moved}
use Rattle.module_vec.specs.Reducers.{AreEntries}
use Rattle.module_vec.specs.Vectors.{Coefficients, sum_of, IsTerm, IsVector}
use Rattle.module_vec.proofs.Order.{test, order, moved_below}
use Rattle.strong_pairs.specs.Pairs.{lead_at}
use Rattle.strong_pairs.specs.Tasks.{step_place, AreStepsAt, AreStepsBelow}
use Rattle.strong_pairs.proofs.Entered.{behind, vector_is, whole_vector, lead_length}
use Rattle.strong_pairs.proofs.Members.{carried, scaled, moved-moved, length-product, steps_at-cons}

abbrev pub InAll : Place → Type 0
InAll p = length p.m ≡ VARIABLES

-- the coefficients of t·v
abbrev pub shifted : List ℕ → List Term → Coefficients
shifted t v x = coefficient same_place (rename (moved t) (sum_of v)) x

pub taken_is : (b : List (List Term)) (s : Step) (x : Place) → taken_at b s x ≡ s.q *ℤ shifted s.t (vector_at b s.by) x
taken_is b s x = coefficient-scale same_place s.q (rename (moved s.t) (sum_of (vector_at b s.by))) x

terms_in_all : (v : List Term) → AllByRecursion IsTerm v → AllByRecursion (λ (u : ℤ × Place). InAll u.1) (sum_of v)
terms_in_all [] h = tt
terms_in_all (t ∷ v) h = (h.0.place.variables, terms_in_all v h.1)

module _ (t : List ℕ) (e : Term) (g : List Term) (long : length t ≡ VARIABLES) (vector : IsVector (e ∷ g)) where
  others_below : AllBelow IsBelow (moved t e.at) (rename (moved t) (sum_of g))
  others_below = AllBelow-rename IsBelow IsBelow InAll (moved t) (λ p q h k l. moved_below t p q (h ∙ sym long) (k ∙ sym long) l) e.at (sum_of g)
      vector.sparse.terms.0.place.variables (terms_in_all g vector.sparse.terms.1) vector.sparse.falling.0

  -- the lead is carried to the lead
  shifted_first : shifted t (e ∷ g) (moved t e.at) ≡ e.k
  shifted_first = coefficient-first test order (e.k, moved t e.at) (rename (moved t) (sum_of g)) others_below

  shifted_over : (x : Place) → IsBelow (moved t e.at) x → shifted t (e ∷ g) x ≡ pos 0
  shifted_over x h = coefficient-above_first test order (e.k, moved t e.at) (rename (moved t) (sum_of g)) x others_below h

module _ (b : List (List Term)) (entries : AreEntries b) where
  pub shifted_lead : (t : List ℕ) (i : ℕ) → length t ≡ VARIABLES → i < length b → shifted t (vector_at b i) (moved t (lead_at b i).at) ≡ (lead_at b i).k
  shifted_lead t i long h = ap (λ v. shifted t v (moved t (lead_at b i).at)) (vector_is b entries i h)
      ∙ shifted_first t (lead_at b i) (behind (vector_at b i)) long (whole_vector b entries i h)

  pub shifted_above : (t : List ℕ) (i : ℕ) → length t ≡ VARIABLES → i < length b → (x : Place) → IsBelow (moved t (lead_at b i).at) x
      → shifted t (vector_at b i) x ≡ pos 0
  shifted_above t i long h x l = ap (λ v. shifted t v x) (vector_is b entries i h)
      ∙ shifted_over t (lead_at b i) (behind (vector_at b i)) long (whole_vector b entries i h) x l

  pub place_length : (s : Step) → length s.t ≡ VARIABLES → s.by < length b → InAll (step_place b s)
  place_length s long h = length-product s.t (lead_at b s.by).at.m VARIABLES long (lead_length b entries s.by h)

  -- at a place above all lead places the sum is 0
  pub zero_over : (T : Place) (ss : List Step) → AreStepsBelow b T ss → steps_at b ss T ≡ pos 0
  zero_over T [] h = refl
  zero_over T (s ∷ ss) h =
      let one : taken_at b s T ≡ pos 0 = taken_is b s T ∙ ap (λ z. s.q *ℤ z) (shifted_above s.t s.by h.0.0 h.0.1 T h.0.2) ∙ omega (arith, ints) in
      omega (arith, ints, steps_at-cons b s ss T, one, zero_over T ss h.1)

  -- ---- steps with a property of their lead places
  module _ (P : Place → Type 0) where
    pub at_append : (ss rs : List Step) → AreStepsAt P b ss → AreStepsAt P b rs → AreStepsAt P b (ss ++ rs)
    at_append [] rs h g = g
    at_append (s ∷ ss) rs h g = (h.0, at_append ss rs h.1 g)

    pub at_scaled : (q : ℤ) (ss : List Step) → AreStepsAt P b ss → AreStepsAt P b (scaled q ss)
    at_scaled q [] h = tt
    at_scaled q (s ∷ ss) h = (h.0, at_scaled q ss h.1)

    pub at_weaker : (Q : Place → Type 0) → ((x : Place) → P x → Q x) → (ss : List Step) → AreStepsAt P b ss → AreStepsAt Q b ss
    at_weaker Q f [] h = tt
    at_weaker Q f (s ∷ ss) h = ((h.0.0, h.0.1, f (step_place b s) h.0.2), at_weaker Q f ss h.1)

    pub at_are : (ss : List Step) → AreStepsAt P b ss → AreSteps b ss
    at_are [] h = tt
    at_are (s ∷ ss) h = ((h.0.0, h.0.1), at_are ss h.1)

    pub at_carried : (Q : Place → Type 0) (q : ℤ) (t : List ℕ) → length t ≡ VARIABLES → ((x : Place) → InAll x → P x → Q (moved t x)) → (ss : List Step)
        → AreStepsAt P b ss → AreStepsAt Q b (carried q t ss)
    at_carried Q q t long f [] h = tt
    at_carried Q q t long f (s ∷ ss) h = (
      (
        length-product t s.t VARIABLES long h.0.0,
        h.0.1,
        subst Q (moved-moved t s.t (lead_at b s.by).at) (f (step_place b s) (place_length s h.0.0 h.0.1) h.0.2),
      ),
      at_carried Q q t long f ss h.1,
    )

  pub below_carried : (p : Place) (q : ℤ) (t : List ℕ) → length t ≡ VARIABLES → InAll p → (ss : List Step) → AreStepsBelow b p ss
      → AreStepsBelow b (moved t p) (carried q t ss)
  below_carried p q t long in_p ss h = at_carried (λ x. IsBelow x p) (λ x. IsBelow x (moved t p)) q t long
      (λ x in_x l. moved_below t x p (in_x ∙ sym long) (in_p ∙ sym long) l) ss h
