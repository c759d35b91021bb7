-- A rest that is appended closes the S task that it is left of.
use Rattle.std.proofs.Common.{◌≡◌, ◌≢◌, ℕ, Bool, true, false, cond, MatchBool, ℤ, pos, negsuc, neg_ℤ, ◌+ℤ◌, ◌*ℤ◌, List, [], ◌∷◌, ◌++◌, length, refl, sym, ap}
use Rattle.std.proofs.Common.{subst, ◌∙◌, arith, append-nil, length-append}
use borrow.Author.Differences.{ints}
use Rattle.std.specs.List.{AllByRecursion}
use Rattle.std.specs.Prelude.{◌<ℤ◌}
use Rattle.formal_sums.specs.FormalSum.{coefficient, scale, rename}
use Rattle.formal_sums.proofs.Coefficients.{coefficient-scale}
use Rattle.laurent_terms.specs.declared.TheConstants.{VARIABLES}
use Rattle.laurent_terms.specs.Monomials.{one}
use Rattle.laurent_terms.proofs.Division.{product-one}
use Rattle.module_vec.specs.declared.places.Place.{Place}
use Rattle.module_vec.specs.declared.places.Term.{Term}
use Rattle.module_vec.specs.declared.steps.Step.{Step}
use Rattle.module_vec.specs.Modules.{vector_at, steps_at}
use Rattle.module_vec.specs.Places.{IsBelow, same_place, moved}
use Rattle.module_vec.specs.Reducers.{IsEntry}
use Rattle.module_vec.specs.Vectors.{sum_of, coefficient_at, multiple, IsTerm}
use Rattle.module_vec.proofs.Lookups.{coefficient_read}
use Rattle.outcomes.specs.declared.kinds.PairKind.TheVariants.{S}
use Rattle.strong_pairs.specs.Pairs.{lead_of, IsPair, pair_place, ArePairSteps, both_at}
use Rattle.strong_pairs.specs.Tasks.{step_place, AreStepsBelow, IsClosed}
use Rattle.strong_pairs.proofs.Members.{steps_at-append}
use Rattle.basis_entry.proofs.Growing.{vector_behind}
use Rattle.pair_work.proofs.Reading.{all_push}
use Rattle.pair_work.proofs.Turning.{at_turned}
use Rattle.pair_work.proofs.Transport.{Same, AllSame, place_same, pair_steps_over, both_same, steps_same, stand_over, same_left, all_left}

rename_one : (v : List Term) → AllByRecursion IsTerm v → rename (moved one) (sum_of v) ≡ sum_of v
rename_one [] h = refl
rename_one (t ∷ v) h = λ n. (t.k, record { m = product-one t.at.m h.0.place.variables n; c = t.at.c }) ∷ rename_one v h.1 n

-- the vector once, with a factor
scaled : (q : ℤ) (v : List Term) → AllByRecursion IsTerm v → (x : Place) → coefficient same_place (multiple q one v ++ []) x ≡ q *ℤ coefficient_at v x
scaled q v h x =
    ap (λ u. coefficient same_place u x) (append-nil (multiple q one v))
    ∙ coefficient-scale same_place q (rename (moved one) (sum_of v)) x
    ∙ ap (λ u. q *ℤ coefficient same_place u x) (rename_one v h)

-- the factor of the rest
abbrev factor : Bool → ℤ
factor negated = cond negated (negsuc 0) (pos 1)

given_back : (negated : Bool) (w v : List Term) → MatchBool negated (sum_of v ≡ scale (negsuc 0) (sum_of w)) (v ≡ w) → (x : Place)
    → factor negated *ℤ coefficient_at v x ≡ coefficient_at w x
given_back true w v e x = let t = at_turned w v e x in twice (coefficient_at w x) (coefficient_at v x) t
  where
    twice : (y z : ℤ) → z ≡ neg_ℤ y → negsuc 0 *ℤ z ≡ y
    twice y z e = omega (arith, ints, e)
given_back false w v e x = ap (λ (u : List Term). pos 1 *ℤ coefficient_at u x) e ∙ once (coefficient_at w x)
  where
    once : (y : ℤ) → pos 1 *ℤ y ≡ y
    once y = omega (arith, ints)

-- the rest has a coefficient at the entry's lead
pub at_lead : (negated : Bool) (w v : List Term) → IsEntry v → MatchBool negated (sum_of v ≡ scale (negsuc 0) (sum_of w)) (v ≡ w)
    → coefficient_at w (lead_of v).at ≢ pos 0
at_lead negated w [] is e none = let wrong = is.is in absurd cc
at_lead negated w (t ∷ v) is e none = by negated e
  where
    same : is.lead ≡ t
    same = let whole : t ∷ v ≡ is.lead ∷ is.others = is.is in cc

    positive : pos 0 <ℤ t.k
    positive = subst (λ (u : Term). pos 0 <ℤ u.k) same is.positive

    own : coefficient_at (t ∷ v) t.at ≡ t.k
    own = coefficient_read (t ∷ v) 0 t (omega arith) is.vector.sparse.falling

    by : (negated : Bool) → MatchBool negated (sum_of (t ∷ v) ≡ scale (negsuc 0) (sum_of w)) (t ∷ v ≡ w) → ⊥
    by true e = let turns = at_turned w (t ∷ v) e t.at in omega (arith, ints, turns, own, positive, none)
    by false e = let same_at : coefficient_at (t ∷ v) t.at ≡ coefficient_at w t.at = ap (λ (u : List Term). coefficient_at u t.at) e
        in omega (arith, ints, same_at, own, positive, none)

module _ (c : List (List Term)) (i j : ℕ) (pair : IsPair c i j) (first second : Step) (are : ArePairSteps S c i j first second) (steps : List Step)
    (below : AreStepsBelow c (pair_place c i j) steps) (w v : List Term) (parts : (x : Place)
    → both_at c first second x ≡ steps_at c steps x +ℤ coefficient_at w x) (negated : Bool)
    (is : MatchBool negated (sum_of v ≡ scale (negsuc 0) (sum_of w)) (v ≡ w)) (entry : IsEntry v) (low : IsBelow (lead_of v).at (pair_place c i j)) where
  abbrev grown : List (List Term)
  grown = c ++ v ∷ []

  abbrev last : Step
  last = record { q = factor negated; t = one; by = length c }

  i_same : Same c grown i
  i_same = let o = pair.order in let w = pair.within in same_left c (v ∷ []) i (omega (arith, o, w))

  j_same : Same c grown j
  j_same = same_left c (v ∷ []) j pair.within

  all : AllSame c grown steps
  all = all_left (λ x. IsBelow x (pair_place c i j)) c (v ∷ []) steps below

  behind : vector_at grown (length c) ≡ v
  behind = vector_behind c [] v

  lead_length : length (lead_of v).at.m ≡ VARIABLES
  lead_length = by v entry
    where
      by : (v : List Term) → IsEntry v → length (lead_of v).at.m ≡ VARIABLES
      by [] h = let wrong = h.is in absurd cc
      by (t ∷ v) h = h.vector.sparse.terms.0.place.variables

  last_place : step_place grown last ≡ (lead_of v).at
  last_place = ap (λ (u : List Term). moved one (lead_of u).at) behind ∙ λ n. record { m = product-one (lead_of v).at.m lead_length n; c = (lead_of v).at.c }

  one_length : length one ≡ VARIABLES
  one_length = refl

  all_below : AreStepsBelow grown (pair_place c i j) (steps ++ last ∷ [])
  all_below =
      let l = length-append c (v ∷ []) in
      all_push _ steps last (stand_over (λ x. IsBelow x (pair_place c i j)) c grown steps all below) (
        one_length,
        omega (arith, l),
        subst (λ x. IsBelow x (pair_place c i j)) (sym last_place) low,
      )

  whole : (x : Place) → both_at grown first second x ≡ steps_at grown (steps ++ last ∷ []) x
  whole x =
      sym (both_same S c grown i j first second i_same j_same are x)
      ∙ parts x
      ∙ (λ n. steps_same c grown steps all x n +ℤ (sym (given_back negated w v is x) ∙ sym (scaled (factor negated) v entry.vector.sparse.terms x)
      ∙ ap (λ (u : List Term). coefficient same_place (multiple (factor negated) one u ++ []) x) (sym behind)) n)
      ∙ sym (steps_at-append grown steps (last ∷ []) x)

  pub closes : IsClosed grown S i j
  closes = (
    first,
    second,
    pair_steps_over S c grown i j first second i_same j_same are,
    record {
      steps = steps ++ last ∷ [];
      below = subst (λ (p : Place). AreStepsBelow grown p (steps ++ last ∷ [])) (place_same c grown i j i_same j_same) all_below;
      is = whole;
    },
  )
