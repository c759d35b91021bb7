-- Steps with their signs turned, and what they add up to.
use Rattle.std.proofs.Common.{◌≡◌, ◌≢◌, ℕ, suc, ◌≤◌, ℤ, pos, negsuc, neg_ℤ, ◌+ℤ◌, ◌-ℤ◌, ◌*ℤ◌, List, [], ◌∷◌, map, length, inl, inr, refl, sym, ap, subst, ◌∙◌}
use Rattle.std.proofs.Common.{arith}
use borrow.Author.Differences.{ints}
use Rattle.std.specs.List.{AllByRecursion}
use Rattle.formal_sums.specs.FormalSum.{Falling, AllBelow, coefficient, scale}
use Rattle.formal_sums.proofs.Coefficients.{coefficient-scale}
use Rattle.module_vec.specs.declared.TheConstants.{TERMS}
use Rattle.module_vec.specs.declared.places.Place.{Place}
use Rattle.module_vec.specs.declared.places.Term.{Term}
use Rattle.module_vec.specs.declared.steps.Step.{Step}
use Rattle.module_vec.specs.Chains.{Runs, taken_at, after}
use Rattle.module_vec.specs.Modules.{AreSteps, vector_at}
use Rattle.module_vec.specs.Places.{IsBelow, same_place}
use Rattle.module_vec.specs.Results.{Nowhere, HasTerms}
use Rattle.module_vec.specs.Vectors.{Coefficients, sum_of, coefficient_at, IsWide}
use Rattle.module_vec.proofs.Lookups.{turned as turned_term, sum_turned, turned_vector}
use Rattle.step_lists.specs.Sums.{Adds, passed, IsInReach, IsValue, zero_vector, IsWideAt}
use Rattle.step_lists.specs.declared.way.Way.TheVariants.{Add}
use Rattle.strong_pairs.specs.Tasks.{step_place, step_places, AreStepsAt}
use Rattle.strong_pairs.proofs.Adding.{multiple-neg}
use Rattle.pair_work.specs.Recipes.{turned}

wide_back : (z : ℤ) → IsWide (neg_ℤ z) → IsWide z
wide_back z w = omega (arith, ints, w)

taken_turned : (b : List (List Term)) (s : Step) (x : Place) → taken_at b (turned s) x ≡ neg_ℤ (taken_at b s x)
taken_turned b s x = multiple-neg s.q s.t (vector_at b s.by) x

-- what a chain subtracts is added with the signs turned
pub adds_turned : (b : List (List Term)) (ss : List Step) (f g : Coefficients) → Runs b f ss g → Adds b f (map turned ss) g
adds_turned b [] f g h = h
adds_turned b (s ∷ ss) f g h = (
  record { narrow = narrow; count = h.1.count; terms = subst (λ (z : Coefficients). HasTerms z h.1.count) same h.1.terms; short = h.1.short },
  subst (λ (z : Coefficients). Adds b z (map turned ss) g) same (adds_turned b ss (after b f s) g h.2),
)
  where
    minus : (y z w : ℤ) → w ≡ neg_ℤ z → y -ℤ z ≡ y +ℤ w
    minus y z w e = omega (arith, ints, e)

    at : (x : Place) → after b f s x ≡ passed Add b f (turned s) x
    at x = minus (f x) (taken_at b s x) (taken_at b (turned s) x) (taken_turned b s x)

    same : after b f s ≡ passed Add b f (turned s)
    same i x = at x i

    narrow : Nowhere (IsWideAt Add f (taken_at b (turned s)))
    narrow x (inl w) = h.1.narrow x (inl (wide_back (taken_at b s x) (subst IsWide (taken_turned b s x) w)))
    narrow x (inr w) = h.1.narrow x (inr (subst IsWide (sym (at x)) w))

-- ---- all signs turned

abbrev pub negative : Coefficients → Coefficients
negative f x = neg_ℤ (f x)

minus_one : (z : ℤ) → negsuc 0 *ℤ z ≡ neg_ℤ z
minus_one z = omega (arith, ints)

-- a vector with all signs turned has the turned coefficients
pub at_turned : (v w : List Term) → sum_of w ≡ scale (negsuc 0) (sum_of v) → (x : Place) → coefficient_at w x ≡ neg_ℤ (coefficient_at v x)
at_turned v w e x = ap (λ u. coefficient same_place u x) e ∙ coefficient-scale same_place (negsuc 0) (sum_of v) x ∙ minus_one (coefficient_at v x)

terms_turned : (f : Coefficients) (n : ℕ) → n ≤ TERMS → HasTerms f n → HasTerms (negative f) n
terms_turned f n short h = record {
  v = map turned_term h.v;
  sparse = (turned_vector h.v (map turned_term h.v) (sum_turned h.v) (record { sparse = h.sparse; most = let c = h.count in omega (arith, c, short) })).sparse;
  is = λ x. at_turned h.v (map turned_term h.v) (sum_turned h.v) x ∙ ap neg_ℤ (h.is x);
  count = long h.v ∙ h.count;
}
  where
    long : (v : List Term) → length (map turned_term v) ≡ length v
    long [] = refl
    long (t ∷ v) = ap suc (long v)

pub adds_negative : (b : List (List Term)) (ss : List Step) (f g : Coefficients) → Adds b f ss g → Adds b (negative f) (map turned ss) (negative g)
adds_negative b [] f g h = λ x. ap neg_ℤ (h x)
adds_negative b (s ∷ ss) f g h = (
  record {
    narrow = narrow;
    count = h.0.count;
    terms = subst (λ (z : Coefficients). HasTerms z h.0.count) same
        (terms_turned (passed Add b f s) h.0.count h.0.short h.0.terms);
    short = h.0.short;
  },
  subst (λ (z : Coefficients). Adds b z (map turned ss) (negative g)) same (adds_negative b ss (passed Add b f s) g h.1),
)
  where
    sum : (y z w : ℤ) → w ≡ neg_ℤ z → neg_ℤ (y +ℤ z) ≡ neg_ℤ y +ℤ w
    sum y z w e = omega (arith, ints, e)

    at : (x : Place) → negative (passed Add b f s) x ≡ passed Add b (negative f) (turned s) x
    at x = sum (f x) (taken_at b s x) (taken_at b (turned s) x) (taken_turned b s x)

    same : negative (passed Add b f s) ≡ passed Add b (negative f) (turned s)
    same i x = at x i

    narrow : Nowhere (IsWideAt Add (negative f) (taken_at b (turned s)))
    narrow x (inl w) = h.0.narrow x (inl (wide_back (taken_at b s x) (subst IsWide (taken_turned b s x) w)))
    narrow x (inr w) = h.0.narrow x (inr (wide_back (passed Add b f s x) (subst IsWide (sym (at x)) w)))

-- ---- what stays as it is

nonzero_neg : (z : ℤ) → z ≢ pos 0 → neg_ℤ z ≢ pos 0
nonzero_neg z n e = n (omega (arith, ints, e))

pub nonzero_turned : (ss : List Step) → AllByRecursion (λ s. s.q ≢ pos 0) ss → AllByRecursion (λ s. s.q ≢ pos 0) (map turned ss)
nonzero_turned [] h = tt
nonzero_turned (s ∷ ss) h = (nonzero_neg s.q h.0, nonzero_turned ss h.1)

pub reach_turned : (b : List (List Term)) (ss : List Step) → AllByRecursion (IsInReach b) ss → AllByRecursion (IsInReach b) (map turned ss)
reach_turned b [] h = tt
reach_turned b (s ∷ ss) h = (record { number = h.0.number; room = h.0.room }, reach_turned b ss h.1)

pub steps_turned : (b : List (List Term)) (ss : List Step) → AreSteps b ss → AreSteps b (map turned ss)
steps_turned b [] h = tt
steps_turned b (s ∷ ss) h = (h.0, steps_turned b ss h.1)

pub stand_turned : (P : Place → Type 0) (b : List (List Term)) (ss : List Step) → AreStepsAt P b ss → AreStepsAt P b (map turned ss)
stand_turned P b [] h = tt
stand_turned P b (s ∷ ss) h = (h.0, stand_turned P b ss h.1)

below_turned : (b : List (List Term)) (p : Place) (ss : List Step) → AllBelow IsBelow p (step_places b ss) → AllBelow IsBelow p (step_places b (map turned ss))
below_turned b p [] h = tt
below_turned b p (s ∷ ss) h = (h.0, below_turned b p ss h.1)

pub falling_turned : (b : List (List Term)) (ss : List Step) → Falling IsBelow (step_places b ss) → Falling IsBelow (step_places b (map turned ss))
falling_turned b [] h = tt
falling_turned b (s ∷ ss) h = (below_turned b (step_place b s) ss h.0, falling_turned b ss h.1)

pub length_turned : (ss : List Step) → length (map turned ss) ≡ length ss
length_turned [] = refl
length_turned (s ∷ ss) = ap suc (length_turned ss)

-- the value of a recipe with all signs turned
pub value_turned : (b : List (List Term)) (ss : List Step) (v w : List Term) → sum_of w ≡ scale (negsuc 0) (sum_of v) → IsValue b ss v
    → IsValue b (map turned ss) w
value_turned b ss v w e h = record {
  vector = turned_vector v w e h.vector;
  nonzero = nonzero_turned ss h.nonzero;
  reach = reach_turned b ss h.reach;
  adds = subst (λ (z : Coefficients). Adds b (negative zero_vector) (map turned ss) z) (λ i x. sym (at_turned v w e x) i)
      (adds_negative b ss zero_vector (coefficient_at v) h.adds);
}
