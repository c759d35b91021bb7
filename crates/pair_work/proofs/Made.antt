-- What the work of a pair has made, over the list that it was worked by.
use Rattle.std.proofs.Common.{◌≡◌, ◌≢◌, ◌≤◌, ◌+◌, Bool, true, false, MatchBool, pos, negsuc, ◌+ℤ◌, List, [], map, length, inl, inr, refl, sym, ap, subst, ◌∙◌}
use Rattle.std.proofs.Common.{arith}
use borrow.Author.Differences.{ints}
use Rattle.std.specs.List.{AllByRecursion}
use Rattle.formal_sums.specs.FormalSum.{scale}
use Rattle.module_vec.specs.declared.TheConstants.{STEPS}
use Rattle.module_vec.specs.declared.places.Place.{Place}
use Rattle.module_vec.specs.declared.places.Term.{Term}
use Rattle.module_vec.specs.declared.steps.Step.{Step}
use Rattle.module_vec.specs.Chains.{Chain}
use Rattle.module_vec.specs.Modules.{AreSteps, steps_at}
use Rattle.module_vec.specs.Places.{IsBelow}
use Rattle.module_vec.specs.Reducers.{AreEntries, IsEntry}
use Rattle.module_vec.specs.Results.{Has}
use Rattle.module_vec.specs.Vectors.{sum_of, coefficient_at}
use Rattle.module_vec.proofs.Determined.{runs_are_chains}
use Rattle.module_vec.proofs.Order.{order}
use Rattle.outcomes.specs.declared.kinds.PairKind.{PairKind}
use Rattle.outcomes.specs.declared.kinds.PairKind.TheVariants.{S, G}
use Rattle.outcomes.specs.declared.tasks.Task.{Task}
use Rattle.presentation.specs.Presented.{Presented}
use Rattle.step_lists.specs.Sums.{IsValue}
use Rattle.step_lists.proofs.AddingUp.{values_are_sums}
use Rattle.strong_pairs.specs.Pairs.{IsPair, pair_place, ArePairSteps, both_at}
use Rattle.strong_pairs.specs.Results.{IsPairVector, BothAreMade}
use Rattle.strong_pairs.specs.Tasks.{IsClosed, AreStepsAt, AreStepsBelow, StandsAt}
use Rattle.strong_pairs.proofs.Chaining.{meeting, first-length, second-length, first_in, second_in, closed_by_chain}
use Rattle.strong_pairs.proofs.Determination.{same_steps}
use Rattle.strong_pairs.proofs.FallingSteps.{chain_falls}
use Rattle.basis_entry.specs.declared.recipes.Recipe.{Recipe}
use Rattle.basis_entry.specs.declared.recipes.Recipe.TheVariants.{Sum}
use Rattle.basis_entry.specs.Base.{has_negative_lead}
use Rattle.basis_entry.specs.Entries.{BasisEntry}
use Rattle.basis_entry.proofs.Vectors.{positive_entry, turned_entry}
use Rattle.pair_work.specs.Recipes.{turned, StandsFor, IsPairRecipe, IsFromPair, IsMadeFor}
use Rattle.pair_work.specs.Outcomes.{IsShort, recipe_steps, Zeroes}
use Rattle.pair_work.specs.Works.{IsUncovered, IsCarriedOut, IsOfRest, recipe_of, signed}
use Rattle.pair_work.proofs.Turning.{steps_turned, stand_turned, falling_turned, length_turned, value_turned, nonzero_turned, reach_turned}
use Rattle.pair_work.proofs.Chained.{IsSound, sound, nonzeros, reaches, factors, vector_stands, steps_stand, adds_all, end_stands}

module _ (b : List (List Term)) (entries : AreEntries b) (t : Task) (pair : IsPair b t.i t.j) (un : IsUncovered b t) (first second : Step) (steps : List Step)
    (w : List Term) (done : IsCarriedOut b t first second steps w) where
  abbrev p : Place
  p = pair_place b t.i t.j

  one : (done.pair.first ≡ first) × (done.pair.second ≡ second)
  one = same_steps b entries t.kind t.i t.j pair done.pair.first done.pair.second first second done.pair.steps done.pair_steps

  made : BothAreMade b first second done.vector
  made = subst (λ (s : Step). BothAreMade b s second done.vector) one.0 (subst (λ (s : Step). BothAreMade b done.pair.first s done.vector) one.1 done.pair.made)

  chain : Chain b (coefficient_at done.vector) steps (coefficient_at w)
  chain = runs_are_chains b steps (coefficient_at done.vector) (coefficient_at w) done.rest.runs

  pub all_sound : AllByRecursion (IsSound b) steps
  all_sound = sound b entries steps (coefficient_at done.vector) (coefficient_at w) done.rest.runs done.vector made.1.vector.sparse (λ x. refl)

  nonzero : (first.q ≢ pos 0) × (second.q ≢ pos 0)
  nonzero = factors b entries t.i t.j pair t.kind first second done.pair_steps un

  pub recipe_value : IsValue b (recipe_of first second steps) w
  recipe_value = record {
    vector = done.rest.vector;
    nonzero = (nonzero.0, (nonzero.1, nonzero_turned steps (nonzeros b steps all_sound)));
    reach = (
      record { number = done.first_reach.number; room = done.first_reach.room },
      (record { number = done.second_reach.number; room = done.second_reach.room }, reach_turned b steps (reaches b steps all_sound)),
    );
    adds = adds_all b entries t.i t.j pair first second done.vector made steps w done.rest.runs;
  }

  pub recipe_steps_are : AreSteps b (recipe_of first second steps)
  recipe_steps_are =
      let m = meeting t.kind b t.i t.j first second done.pair_steps in (
        (first-length b entries t.i t.j pair first second m, first_in b entries t.i t.j pair first second m),
        (
          (second-length b entries t.i t.j pair first second m, second_in b entries t.i t.j pair first second m),
          steps_turned b steps done.rest.are,
        ),
      )

  pub stand : AreStepsAt (StandsFor t.kind p) b steps
  stand = steps_stand b entries t.i t.j pair t.kind done.vector done.pair steps (coefficient_at w) chain

  pub recipe_is : IsPairRecipe t.kind b t.i t.j (recipe_of first second steps)
  recipe_is = record {
    first = first;
    second = second;
    further = map turned steps;
    is = refl;
    pair = done.pair_steps;
    stand = stand_turned (StandsFor t.kind p) b steps stand;
    falling = falling_turned b steps (chain_falls b entries (λ x. Unit {0}) (λ x y l h. tt) steps (coefficient_at done.vector) (coefficient_at w)
        everywhere chain);
  }
    where
      everywhere : StandsAt (λ x. Unit {0}) (coefficient_at done.vector)
      everywhere x nz = ((vector_stands b entries t.i t.j pair t.kind done.vector done.pair x nz).0, tt)

  -- the vector is what the steps take away, and the rest
  pub parts : (x : Place) → both_at b first second x ≡ steps_at b steps x +ℤ coefficient_at w x
  parts x = sym (made.1.is x) ∙ done.rest.sum x

  -- ---- the rest as an entry
  pub signed_value : (negated : Bool) (v : List Term) → MatchBool negated (sum_of v ≡ scale (negsuc 0) (sum_of w)) (v ≡ w)
      → IsValue b (signed negated (recipe_of first second steps)) v
  signed_value true v e = value_turned b (recipe_of first second steps) w v e recipe_value
  signed_value false v e = subst (λ (u : List Term). IsValue b (recipe_of first second steps) u) (sym e) recipe_value

  pub signed_from : (negated : Bool) → IsFromPair t.kind b t.i t.j (signed negated (recipe_of first second steps))
  signed_from true = inr (recipe_of first second steps, recipe_is, refl)
  signed_from false = inl recipe_is

  pub signed_are : (negated : Bool) → AreSteps b (signed negated (recipe_of first second steps))
  signed_are true = steps_turned b (recipe_of first second steps) recipe_steps_are
  signed_are false = recipe_steps_are

  pub signed_has : (negated : Bool) (v : List Term) → MatchBool negated (sum_of v ≡ scale (negsuc 0) (sum_of w)) (v ≡ w)
      → Has v (steps_at b (signed negated (recipe_of first second steps)))
  signed_has negated v e = values_are_sums b v (signed negated (recipe_of first second steps)) (signed_value negated v e)

  pub signed_entry : (negated : Bool) (v : List Term) → w ≢ [] → has_negative_lead w ≡ negated
      → MatchBool negated (sum_of v ≡ scale (negsuc 0) (sum_of w)) (v ≡ w) → IsEntry v
  signed_entry true v some sign e = turned_entry w v done.rest.vector some sign e
  signed_entry false v some sign e = subst IsEntry (sym e) (positive_entry w done.rest.vector some sign)

  pub signed_recipe : (negated : Bool) (r : Recipe) → MatchBool negated (r ≡ Sum (map turned (recipe_of first second steps))) (r
      ≡ Sum (recipe_of first second steps)) → r ≡ Sum (signed negated (recipe_of first second steps))
  signed_recipe true r h = h
  signed_recipe false r h = h

  abbrev pub made_for : (q : Presented) (e : BasisEntry) → IsOfRest q w (recipe_of first second steps) e → IsMadeFor b t e
  made_for q e is = record {
    steps = signed (has_negative_lead w) (recipe_of first second steps);
    recipe = signed_recipe (has_negative_lead w) e.recipe is.recipe;
    value = signed_value (has_negative_lead w) e.vector is.vector;
    from = signed_from (has_negative_lead w);
  }

  signed_length : (negated : Bool) → length (signed negated (recipe_of first second steps)) ≡ length steps + 2
  signed_length true = let l = length_turned (recipe_of first second steps) in let k = length_turned steps in omega (arith, l, k)
  signed_length false = let k = length_turned steps in omega (arith, k)

  pub short : (q : Presented) (e : BasisEntry) → IsOfRest q w (recipe_of first second steps) e → IsShort e
  short q e is =
      let r = signed_recipe (has_negative_lead w) e.recipe is.recipe in
      let l = signed_length (has_negative_lead w) in
      let m = done.rest.most in
      subst (λ (r : Recipe). recipe_steps r ≤ STEPS + 2) (sym r) (omega (arith, l, m))

  pub kind_s : t.kind ≡ S → ArePairSteps S b t.i t.j first second
  kind_s k = subst (λ (k : PairKind). ArePairSteps k b t.i t.j first second) k done.pair_steps

  pub stand_s : t.kind ≡ S → AreStepsBelow b p steps
  stand_s k = subst (λ (k : PairKind). AreStepsAt (StandsFor k p) b steps) k stand

  -- where the rest of an S-vector stands
  pub rest_below : t.kind ≡ S → StandsAt (λ x. IsBelow x p) (coefficient_at w)
  rest_below k = end_stands b entries (λ x. IsBelow x p) (λ x y l h. order.transitive y x p l h) steps (coefficient_at done.vector) (coefficient_at w) chain
      (subst (λ (k : PairKind). StandsAt (StandsFor k p) (coefficient_at done.vector)) k (vector_stands b entries t.i t.j pair t.kind done.vector done.pair))

  -- ---- nothing is left
  none_left : w ≡ [] → (x : Place) → coefficient_at w x ≡ pos 0
  none_left e x = ap (λ (u : List Term). coefficient_at u x) e

  pub zero_s : w ≡ [] → t.kind ≡ S → Zeroes b t.i t.j steps
  zero_s e k = record {
    first = first;
    second = second;
    pair = kind_s k;
    below = stand_s k;
    is = λ x. parts x ∙ let n = none_left e x in omega (arith, ints, n);
  }

  pub not_g : w ≡ [] → t.kind ≡ G → ⊥
  not_g e k = by (subst (λ (k : PairKind). IsPairVector k b t.i t.j done.vector) k done.pair)
    where
      by : IsPairVector G b t.i t.j done.vector → ⊥
      by v = covered (closed_by_chain b entries t.i t.j pair G done.vector v steps (coefficient_at w) chain (none_left e))
        where
          covered : IsClosed b G t.i t.j → ⊥
          covered (n, cover) = un k n cover.0 cover
