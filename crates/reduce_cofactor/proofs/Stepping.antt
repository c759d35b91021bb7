-- One step of the code is one step of the chain.
use Rattle.std.proofs.Common.{◌≡◌, ℕ, ◌+◌, ◌-◌, ◌*◌, ◌<◌, ◌≤◌, ℤ, pos, ◌+ℤ◌, ◌-ℤ◌, ◌*ℤ◌, Bool, true, false, cond, List, [], ◌∷◌, ◌++◌, length, take, drop}
use Rattle.std.proofs.Common.{length-append, append_assoc, append-nil, refl, sym, ap, ◌∙◌, subst, arith, ◌⊎◌, inl, inr}
use Rattle.std.specs.Prelude.{neg_ℤ, ◌<ℤ◌, Some, None}
use Rattle.std.specs.Int.{int_div_euclid}
use Rattle.std.specs.List.{AllByRecursion}
use Rattle.std.proofs.lemmas.List.{take-append-drop}
use Rattle.std.proofs.lemmas.Option.{get_or_from_slice_get}
use borrow.Author.Differences.{ints}
use Rattle.formal_sums.specs.FormalSum.{AllBelow}
use Rattle.formal_sums.proofs.Coefficients.{coefficient-append}
use Rattle.formal_sums.proofs.Falling.{coefficient-above, AllBelow_transitive, AllAbove_transitive}
use Rattle.formal_sums.proofs.Floors.{floor_left}
use Rattle.formal_sums.proofs.Keys.{eq-below, eq-above}
use Rattle.laurent_terms.specs.declared.TheConstants.{VARIABLES}
use Rattle.laurent_terms.specs.Monomials.{product}
use Rattle.laurent_terms.proofs.Combining.{length-combined}
use Rattle.laurent_terms.proofs.Division.{product-quotient, product_comm}
use Rattle.module_vec.specs.declared.TheConstants.{TERMS, STEPS}
use Rattle.module_vec.specs.declared.places.Place.{Place}
use Rattle.module_vec.specs.declared.places.Term.{Term}
use Rattle.module_vec.specs.declared.steps.Step.{Step}
use Rattle.module_vec.specs.declared.faults.Stop.{Stop}
use Rattle.module_vec.specs.declared.faults.Stop.TheVariants.{Wide, Long, Deep, Steep}
use Rattle.module_vec.specs.Places.{IsBelow, same_place, moved}
use Rattle.module_vec.specs.Vectors.{Coefficients, sum_of, coefficient_at, multiple, multiple_at, difference_at, IsWide, IsTerm, IsSparse, IsVector}
use Rattle.module_vec.specs.Results.{DifferenceIsWide, Nowhere, IsGreatest, HasTerms, IsMade, StopsBy}
use Rattle.module_vec.specs.Merging.{Subtracts}
use Rattle.module_vec.specs.Reducers.{IsEntry, AreEntries}
use Rattle.module_vec.specs.Modules.{vector_at, steps_at, sum_of_steps}
use Rattle.module_vec.specs.Chains.{Rests, IsNext, Goes, Runs, StepIsWide, ChainStops, taken_at, after}
use Rattle.module_vec.proofs.Order.{test, order}
use Rattle.module_vec.proofs.FallingTerms.{Above, Below, Falls, all_front, all_back, all_join, all_insert, falls_back, falls_insert, below_from_first, at_join}
use Rattle.module_vec.proofs.FallingTerms.{at_above, at_below}
use Rattle.module_vec.proofs.Merging.{in_range, in_range_not_wide}
use Rattle.module_vec.proofs.Scans.{read_within}
use Rattle.reduce_cofactor.specs.Steps.{IsStepAt, RestsWith}
use Rattle.reduce_cofactor.specs.Running.{Running, IsKept, stop_at, fault_in}
use Rattle.reduce_cofactor.specs.Answers.{IsRest, Fails}
use Rattle.changed_terms.specs.declared.faults.TakeFault.{TakeFault}
use Rattle.changed_terms.specs.declared.faults.TakeFault.TheVariants as taking
use Rattle.changed_terms.specs.Taking.{CannotTake}
use Rattle.changed_terms.proofs.Joins.{above_next, falls_front, falls_join}
use Rattle.changed_terms.proofs.Differences.{multiple_below}
use Rattle.reduce_cofactor.proofs.FallingFronts.{same_front}
use Rattle.reduce_cofactor.proofs.Resting.{entry_at, rests_at, rests_zero, rests_left, lead_positive}

-- ---- runs

pub runs_to : (b : List (List Term)) (ss : List Step) (v f g : Coefficients) → ((x : Place) → g x ≡ f x) → Runs b v ss f → Runs b v ss g
runs_to b [] v f g e r = λ x. e x ∙ r x
runs_to b (s ∷ ss) v f g e r = (r.0, r.1, runs_to b ss (after b v s) f g e r.2)

runs_push : (b : List (List Term)) (ss : List Step) (v f g : Coefficients) (s : Step) → Runs b v ss f → IsNext b f s → Goes b f s
    → ((x : Place) → g x ≡ after b f s x) → Runs b v (ss ++ s ∷ []) g
runs_push b [] v f g s r n h e = let same : Path Coefficients f v = λ i x. r x i
    in subst (λ w. IsNext b w s × Goes b w s × ((x : Place) → g x ≡ after b w s x)) same (n, h, e)
runs_push b (u ∷ ss) v f g s r n h e = (r.0, r.1, runs_push b ss (after b v u) f g s r.2 n h e)

-- what the steps take and what is left add up to the vector
pub runs_sum : (b : List (List Term)) (ss : List Step) (v f : Coefficients) → Runs b v ss f → (x : Place) → v x ≡ steps_at b ss x +ℤ f x
runs_sum b [] v f r x = let e : f x ≡ v x = r x in omega (arith, ints)
runs_sum b (s ∷ ss) v f r x =
    let rest : v x -ℤ taken_at b s x ≡ steps_at b ss x +ℤ f x = runs_sum b ss (after b v s) f r.2 x in
    let split : steps_at b (s ∷ ss) x ≡ taken_at b s x +ℤ steps_at b ss x =
    coefficient-append same_place (multiple s.q s.t (vector_at b s.by)) (sum_of_steps b ss) x in
    omega (arith, ints)

pub all_push : {A : Type 0} (P : A → Type 0) (v : List A) (x : A) → AllByRecursion P v → P x → AllByRecursion P (v ++ x ∷ [])
all_push P [] x h p = (p, tt)
all_push P (y ∷ v) x h p = (h.0, all_push P v x h.1 p)

-- a step made weighs more than all terms of a vector
pub fewer_left : (n m k l : ℕ) → m ≡ n + 1 → m ≤ STEPS → l ≤ TERMS → (STEPS - m) * (TERMS + 1) + l < (STEPS - n) * (TERMS + 1) + k
fewer_left n m k l e few short = omega arith

-- ---- the greatest term is done

pub keeps : (b : List (List Term)) (v : Coefficients) (ss : List Step) (rest : List Term) (t : Term) (dividend : List Term) → Running b v ss rest (t ∷ dividend)
    → RestsWith b t → Running b v ss (rest ++ t ∷ []) dividend
keeps b v ss rest t dividend r quiet = record {
  entries = r.entries;
  sparse = subst IsSparse whole r.sparse;
  short = omega (arith, length-append rest (t ∷ []), r.short);
  runs = subst (λ w. Runs b v ss (coefficient_at w)) whole r.runs;
  settled = λ x z. subst (λ w. Rests b (coefficient_at w) x) whole (settled x z (same_place t.at x) refl);
  most = r.most;
  are = r.are;
}
  where
    whole : rest ++ t ∷ dividend ≡ (rest ++ t ∷ []) ++ dividend
    whole = sym (append_assoc rest (t ∷ []) dividend)

    here : coefficient_at (rest ++ t ∷ dividend) t.at ≡ t.k
    here =
        let above : coefficient_at rest t.at ≡ pos 0 = at_below t.at rest (above_next rest t dividend r.sparse.falling) in
        let below : coefficient_at dividend t.at ≡ pos 0 = at_above t.at dividend (falls_back rest (t ∷ dividend) r.sparse.falling).0 in
        let own : cond (same_place t.at t.at) t.k (pos 0) ≡ t.k = rw (test.reflexive t.at) refl in
        omega (arith, ints, at_join rest (t ∷ dividend) t.at, above, below, own)

    settled : (x : Place) → coefficient_at dividend x ≡ pos 0 → (c : Bool) → same_place t.at x ≡ c → Rests b (coefficient_at (rest ++ t ∷ dividend)) x
    settled x z true e = subst (Rests b (coefficient_at (rest ++ t ∷ dividend))) (test.sound t.at x e) (quiet (coefficient_at (rest ++ t ∷ dividend)) here)
    settled x z false e =
        let own : cond (same_place t.at x) t.k (pos 0) ≡ pos 0 = rw e refl in
        r.settled x (omega (arith, ints, own, z))

-- ---- the step at the greatest term

module _ (b : List (List Term)) (v : Coefficients) (ss : List Step) (rest : List Term) (t : Term) (dividend : List Term) (s : Step)
    (r : Running b v ss rest (t ∷ dividend)) (due : IsStepAt b t s) where
  -- the vector before the step, and what the step takes
  abbrev before : Coefficients
  before = coefficient_at (rest ++ t ∷ dividend)

  abbrev taken : Coefficients
  taken = multiple_at s.q s.t (due.lead ∷ due.others)

  abbrev taken_below : Coefficients
  taken_below = multiple_at s.q s.t due.others

  entry : IsEntry (due.lead ∷ due.others)
  entry = entry_at b s.by due.lead due.others r.entries due.reducer.entry

  positive : pos 0 <ℤ due.lead.k
  positive = lead_positive due.lead due.others entry

  own : IsTerm t
  own = (all_back IsTerm rest (t ∷ dividend) r.sparse.terms).0

  same_length : length t.at.m ≡ length due.lead.at.m
  same_length = own.place.variables ∙ sym entry.vector.sparse.terms.0.place.variables

  long : length s.t ≡ VARIABLES
  long = ap length due.monomial ∙ length-combined _ t.at.m due.lead.at.m same_length ∙ own.place.variables

  lead_at : moved s.t due.lead.at ≡ t.at
  lead_at =
      let m : product s.t due.lead.at.m ≡ t.at.m = product_comm s.t due.lead.at.m ∙ ap (product due.lead.at.m) due.monomial
      ∙ product-quotient due.lead.at.m t.at.m (sym same_length) due.reducer.reduces.1 in
      λ i. record { m = m i; c = due.reducer.reduces.0 i }

  others_below : AllBelow IsBelow t.at (multiple s.q s.t due.others)
  others_below = subst (λ p. AllBelow IsBelow p (multiple s.q s.t due.others)) lead_at
      (multiple_below s.q s.t due.lead.at due.others long entry.vector.sparse.terms.0.place.variables entry.vector.sparse.terms.1 entry.vector.sparse.falling.0)

  rest_above : Above t.at rest
  rest_above = above_next rest t dividend r.sparse.falling

  dividend_below : Below t.at dividend
  dividend_below = (falls_back rest (t ∷ dividend) r.sparse.falling).0

  -- the coefficients at t, below it and above it
  here_before : before t.at ≡ t.k
  here_before =
      let own_part : cond (same_place t.at t.at) t.k (pos 0) ≡ t.k = rw (test.reflexive t.at) refl in
      omega (arith, ints, at_join rest (t ∷ dividend) t.at, at_below t.at rest rest_above, at_above t.at dividend dividend_below, own_part)

  below_before : (x : Place) → IsBelow x t.at → before x ≡ coefficient_at dividend x
  below_before x h =
      let own_part : cond (same_place t.at x) t.k (pos 0) ≡ pos 0 = rw (eq-above test order t.at x h) refl in
      omega (arith, ints, at_join rest (t ∷ dividend) x, at_below x rest (AllAbove_transitive test order t.at x h (sum_of rest) rest_above), own_part)

  above_open : (x : Place) → IsBelow t.at x → coefficient_at (t ∷ dividend) x ≡ pos 0
  above_open x h = at_above x (t ∷ dividend) (h, AllBelow_transitive test order t.at x h (sum_of dividend) dividend_below)

  none_above_dividend : (x : Place) → IsBelow t.at x → coefficient_at dividend x ≡ pos 0
  none_above_dividend x h = at_above x dividend (AllBelow_transitive test order t.at x h (sum_of dividend) dividend_below)

  here_taken : taken t.at ≡ s.q *ℤ due.lead.k
  here_taken =
      let own_part : cond (same_place (moved s.t due.lead.at) t.at) (s.q *ℤ due.lead.k) (pos 0) ≡ s.q *ℤ due.lead.k =
      rw (ap (λ p. same_place p t.at) lead_at ∙ test.reflexive t.at) refl in
      omega (arith, ints, own_part, coefficient-above test order t.at (multiple s.q s.t due.others) others_below)

  below_taken : (x : Place) → IsBelow x t.at → taken x ≡ taken_below x
  below_taken x h =
      let own_part : cond (same_place (moved s.t due.lead.at) x) (s.q *ℤ due.lead.k) (pos 0) ≡ pos 0 =
      rw (ap (λ p. same_place p x) lead_at ∙ eq-above test order t.at x h) refl in
      omega (arith, ints, own_part)

  none_above_taken : (x : Place) → IsBelow t.at x → taken_below x ≡ pos 0
  none_above_taken x h = coefficient-above test order x (multiple s.q s.t due.others)
      (AllBelow_transitive test order t.at x h (multiple s.q s.t due.others) others_below)

  above_taken : (x : Place) → IsBelow t.at x → taken x ≡ pos 0
  above_taken x h =
      let own_part : cond (same_place (moved s.t due.lead.at) x) (s.q *ℤ due.lead.k) (pos 0) ≡ pos 0 =
      rw (ap (λ p. same_place p x) lead_at ∙ eq-below test order t.at x h) refl in
      omega (arith, ints, own_part, none_above_taken x h)

  vector_is : vector_at b s.by ≡ due.lead ∷ due.others
  vector_is = get_or_from_slice_get b s.by (due.lead ∷ due.others) [] due.reducer.entry

  -- the step that is next
  next : IsNext b before s
  next = record {
    place = t.at;
    lead = due.lead;
    others = due.others;
    due = record { reducer = due.reducer; moves = λ z. due.moves (due.factor ∙ ap (λ k. int_div_euclid k due.lead.k) (sym here_before) ∙ z) };
    greatest = λ x h. r.settled x (above_open x h);
    factor = due.factor ∙ ap (λ k. int_div_euclid k due.lead.k) (sym here_before);
    monomial = due.monomial;
  }

  -- ---- where a number leaves the range

  abbrev IsWideAt : Place → Type 0
  IsWideAt = DifferenceIsWide before taken

  abbrev IsWideBelow : Place → Type 0
  IsWideBelow = DifferenceIsWide (coefficient_at dividend) taken_below

  left_here : before t.at -ℤ taken t.at ≡ t.k -ℤ s.q *ℤ due.lead.k
  left_here = λ i. here_before i -ℤ here_taken i

  none_wide : (z w : ℤ) → z ≡ pos 0 → w ≡ pos 0 → IsWide w ⊎ IsWide (z -ℤ w) → ⊥
  none_wide z w e f (inl h) = in_range_not_wide (pos 0) (omega arith) (subst IsWide f h)
  none_wide z w e f (inr h) = let none : z -ℤ w ≡ pos 0 = omega (arith, ints) in in_range_not_wide (pos 0) (omega arith) (subst IsWide none h)

  narrow_above : (x : Place) → IsBelow t.at x → IsWideAt x → ⊥
  narrow_above x h (inl w) = in_range_not_wide (pos 0) (omega arith) (subst IsWide (above_taken x h) w)
  narrow_above x h (inr w) =
      let same : before x -ℤ taken x ≡ before x = omega (arith, ints, above_taken x h) in
      in_range_not_wide (before x) (in_range (rest ++ t ∷ dividend) r.sparse.terms r.sparse.falling x) (subst IsWide same w)

  narrow_here : (k : ℤ) → Subtracts t.k s.q due.lead.k (Some k) → IsWideAt t.at → ⊥
  narrow_here k e (inl w) = in_range_not_wide (s.q *ℤ due.lead.k) e.2 (subst IsWide here_taken w)
  narrow_here k e (inr w) = in_range_not_wide k e.1 (subst IsWide (left_here ∙ sym e.0) w)

  down : (x : Place) → IsBelow x t.at → IsWideAt x → IsWideBelow x
  down x h w = subst (λ z. IsWide z ⊎ IsWide (coefficient_at dividend x -ℤ z)) (below_taken x h)
      (subst (λ z. IsWide (taken x) ⊎ IsWide (z -ℤ taken x)) (below_before x h) w)

  up_again : (x : Place) → IsBelow x t.at → IsWideBelow x → IsWideAt x
  up_again x h w = subst (λ z. IsWide (taken x) ⊎ IsWide (z -ℤ taken x)) (sym (below_before x h))
      (subst (λ z. IsWide z ⊎ IsWide (coefficient_at dividend x -ℤ z)) (sym (below_taken x h)) w)

  only_below : (k : ℤ) → Subtracts t.k s.q due.lead.k (Some k) → (x : Place) → IsWideAt x → IsWideBelow x
  only_below k e x w = by (order.total x t.at)
    where
      by : (x ≡ t.at) ⊎ (IsBelow x t.at ⊎ IsBelow t.at x) → IsWideBelow x
      by (inl same) = absurd (narrow_here k e (subst IsWideAt same w))
      by (inr (inl h)) = down x h w
      by (inr (inr h)) = absurd (narrow_above x h w)

  stands_below : (x : Place) → IsWideBelow x → IsBelow x t.at
  stands_below x w = by (order.total x t.at)
    where
      by : (x ≡ t.at) ⊎ (IsBelow x t.at ⊎ IsBelow t.at x) → IsBelow x t.at
      by (inl same) = absurd (none_wide (coefficient_at dividend t.at) (taken_below t.at) (at_above t.at dividend dividend_below)
          (coefficient-above test order t.at (multiple s.q s.t due.others) others_below) (subst IsWideBelow same w))
      by (inr (inl h)) = h
      by (inr (inr h)) = absurd (none_wide (coefficient_at dividend x) (taken_below x) (none_above_dividend x h) (none_above_taken x h) w)

  -- the same of the step of the list
  of_step : (P : Coefficients → Type 0) → P taken → P (taken_at b s)
  of_step P h = subst (λ g. P (multiple_at s.q s.t g)) (sym vector_is) h

  narrow_step : (k : ℤ) → Subtracts t.k s.q due.lead.k (Some k) → Nowhere IsWideBelow → Nowhere (StepIsWide b before s)
  narrow_step k e h = of_step (λ g. Nowhere (DifferenceIsWide before g)) (λ x w. h x (only_below k e x w))

  wide_lead : Subtracts t.k s.q due.lead.k None → IsGreatest (StepIsWide b before s) t.at
  wide_lead wide = of_step (λ g. IsGreatest (DifferenceIsWide before g) t.at) (record { here = here wide; above = narrow_above })
    where
      here : Subtracts t.k s.q due.lead.k None → IsWideAt t.at
      here (inl w) = inl (subst IsWide (sym here_taken) w)
      here (inr w) = inr (subst IsWide (sym left_here) w)

  wide_others : (k : ℤ) → Subtracts t.k s.q due.lead.k (Some k) → (p : Place) → IsGreatest IsWideBelow p → IsGreatest (StepIsWide b before s) p
  wide_others k e p h = of_step (λ g. IsGreatest (DifferenceIsWide before g) p) (record {
    here = up_again p (stands_below p h.here) h.here;
    above = λ x lower w. h.above x lower (only_below k e x w);
  })

  -- ---- the stops

  pub stops_deep : length ss ≡ STEPS → ChainStops b v Deep
  stops_deep e = record { steps = ss; last = before; step = s; runs = r.runs; next = next; stops = e }

  pub stops_lead : length ss < STEPS → Subtracts t.k s.q due.lead.k None → ChainStops b v (Wide t.at (length ss + 1))
  stops_lead few wide = record { steps = ss; last = before; step = s; runs = r.runs; next = next; stops = (few, (refl, wide_lead wide)) }

  pub stops_others : length ss < STEPS → (k : ℤ) → Subtracts t.k s.q due.lead.k (Some k) → (p : Place) → IsGreatest IsWideBelow p
      → ChainStops b v (Wide p (length ss + 1))
  stops_others few k e p wide = record { steps = ss; last = before; step = s; runs = r.runs; next = next; stops = (few, (refl, wide_others k e p wide)) }

  pub stops_taking : length ss < STEPS → (k : ℤ) → Subtracts t.k s.q due.lead.k (Some k) → (fault : TakeFault) → CannotTake IsWideBelow fault
      → Fails b v (fault_in fault (length ss + 1))
  stops_taking few k e (taking.Wide p) h = stops_others few k e p h
  stops_taking few k e taking.NoMemory h = tt

  -- ---- the vector after the step, where k is left at t

  module _ (k : ℤ) (rest' dividend' : List Term) where
    pub record Made : Type 0 where
      pub left : Subtracts t.k s.q due.lead.k (Some k)
      pub narrow : Nowhere IsWideBelow
      pub sparse : IsSparse dividend'
      pub is : (x : Place) → coefficient_at dividend' x ≡ coefficient_at dividend x -ℤ taken_below x
      pub kept : IsKept rest t.at k rest'

    module _ (made : Made) where
      abbrev after_step : Coefficients
      after_step = coefficient_at (rest' ++ dividend')

      rest_is : (x : Place) → coefficient_at rest' x ≡ coefficient_at rest x +ℤ cond (same_place t.at x) k (pos 0)
      rest_is x = by made.kept
        where
          none : (c : Bool) (z : ℤ) → k ≡ pos 0 → z ≡ z +ℤ cond c k (pos 0)
          none true z e = omega (arith, ints)
          none false z e = omega (arith, ints)

          by : IsKept rest t.at k rest' → coefficient_at rest' x ≡ coefficient_at rest x +ℤ cond (same_place t.at x) k (pos 0)
          by (inl h) = ap (λ w. coefficient_at w x) h.1 ∙ none (same_place t.at x) (coefficient_at rest x) h.0
          by (inr h) =
              let whole : coefficient_at rest' x ≡ coefficient_at (rest ++ record { at = t.at; k = k } ∷ []) x = ap (λ w. coefficient_at w x) h.1 in
              omega (arith, ints, whole, at_join rest (record { at = t.at; k = k } ∷ []) x)

      here_after : after_step t.at ≡ k
      here_after =
          let own_part : cond (same_place t.at t.at) k (pos 0) ≡ k = rw (test.reflexive t.at) refl in
          let none : coefficient_at dividend t.at ≡ pos 0 = at_above t.at dividend dividend_below in
          let none_taken : taken_below t.at ≡ pos 0 = coefficient-above test order t.at (multiple s.q s.t due.others) others_below in
          omega (arith, ints, at_join rest' dividend' t.at, rest_is t.at, own_part, at_below t.at rest rest_above, made.is t.at, none, none_taken)

      below_after : (x : Place) → IsBelow x t.at → after_step x ≡ coefficient_at dividend' x
      below_after x h =
          let own_part : cond (same_place t.at x) k (pos 0) ≡ pos 0 = rw (eq-above test order t.at x h) refl in
          omega (
            arith,
            ints,
            at_join rest' dividend' x,
            rest_is x,
            own_part,
            at_below x rest
                (AllAbove_transitive test order t.at x h (sum_of rest) rest_above),
          )

      above_after : (x : Place) → IsBelow t.at x → after_step x ≡ before x
      above_after x h =
          let own_part : cond (same_place t.at x) k (pos 0) ≡ pos 0 = rw (eq-below test order t.at x h) refl in
          omega (
            arith,
            ints,
            at_join rest' dividend' x,
            rest_is x,
            own_part,
            made.is x,
            none_above_dividend x h,
            none_above_taken x h,
            at_join rest (t ∷ dividend) x,
            above_open x h,
          )

      after_is : (x : Place) → after_step x ≡ before x -ℤ taken x
      after_is x = by (order.total x t.at)
        where
          by : (x ≡ t.at) ⊎ (IsBelow x t.at ⊎ IsBelow t.at x) → after_step x ≡ before x -ℤ taken x
          by (inl same) = subst (λ y. after_step y ≡ before y -ℤ taken y) (sym same) (here_after ∙ made.left.0 ∙ sym left_here)
          by (inr (inl h)) = omega (arith, ints, below_after x h, made.is x, below_before x h, below_taken x h)
          by (inr (inr h)) = omega (arith, ints, above_after x h, above_taken x h)

      -- the terms fall
      stays_below : (w : List Term) → IsSparse w → ((x : Place) → coefficient_at w x ≡ coefficient_at dividend x -ℤ taken_below x) → Below t.at w
      stays_below [] h e = tt
      stays_below (u ∷ w) h e = below_from_first t.at u w (by (order.total u.at t.at)) h.falling
        where
          own_part : cond (same_place u.at u.at) u.k (pos 0) ≡ u.k
          own_part = rw (test.reflexive u.at) refl

          at_u : coefficient_at (u ∷ w) u.at ≡ u.k
          at_u = omega (arith, ints, own_part, at_above u.at w h.falling.0)

          not_zero : coefficient_at dividend u.at ≡ pos 0 → taken_below u.at ≡ pos 0 → ⊥
          not_zero d m = h.terms.0.nonzero (omega (arith, ints, at_u, e u.at, d, m))

          by : (u.at ≡ t.at) ⊎ (IsBelow u.at t.at ⊎ IsBelow t.at u.at) → IsBelow u.at t.at
          by (inl same) = absurd (not_zero (ap (coefficient_at dividend) same ∙ at_above t.at dividend dividend_below) (ap taken_below same
              ∙ coefficient-above test order t.at (multiple s.q s.t due.others) others_below))
          by (inr (inl h)) = h
          by (inr (inr h)) = absurd (not_zero (none_above_dividend u.at h) (none_above_taken u.at h))

      all_below : Below t.at dividend'
      all_below = stays_below dividend' made.sparse made.is

      joined : Falls (rest ++ dividend')
      joined = falls_join t.at rest dividend' (falls_front rest (t ∷ dividend) r.sparse.falling) made.sparse.falling rest_above all_below

      joined_terms : AllByRecursion IsTerm (rest ++ dividend')
      joined_terms = all_join IsTerm rest dividend' (all_front IsTerm rest (t ∷ dividend) r.sparse.terms) made.sparse.terms

      sparse_after : IsSparse (rest' ++ dividend')
      sparse_after = by made.kept
        where
          by : IsKept rest t.at k rest' → IsSparse (rest' ++ dividend')
          by (inl h) = subst (λ w. IsSparse (w ++ dividend')) (sym h.1) (record { falling = joined; terms = joined_terms })
          by (inr h) =
              let left : Term = record { at = t.at; k = k } in
              let whole : rest ++ left ∷ dividend' ≡ rest' ++ dividend' = sym (append_assoc rest (left ∷ []) dividend') ∙ ap (λ w. w ++ dividend') (sym h.1) in
              subst IsSparse whole (record {
                falling = falls_insert rest left dividend' joined rest_above all_below;
                terms = all_insert IsTerm rest left dividend' joined_terms (record { place = own.place; nonzero = h.0; range = made.left.1 });
              })

      after_step_is : (x : Place) → after_step x ≡ after b before s x
      after_step_is = of_step (λ g. (x : Place) → after_step x ≡ before x -ℤ g x) after_is

      terms_after : HasTerms (after b before s) (length (rest' ++ dividend'))
      terms_after = record { v = rest' ++ dividend'; sparse = sparse_after; is = after_step_is; count = refl }

      settled_after : (x : Place) → coefficient_at dividend' x ≡ pos 0 → Rests b after_step x
      settled_after x z = by (order.total x t.at)
        where
          floor : int_div_euclid (after_step t.at) due.lead.k ≡ pos 0
          floor =
              let q : k ≡ t.k -ℤ int_div_euclid t.k due.lead.k *ℤ due.lead.k = made.left.0 ∙ ap (λ y. t.k -ℤ y *ℤ due.lead.k) due.factor in
              ap (λ y. int_div_euclid y due.lead.k) (here_after ∙ q ∙ minus t.k (int_div_euclid t.k due.lead.k *ℤ due.lead.k))
              ∙ floor_left t.k due.lead.k positive
            where
              minus : (y w : ℤ) → y -ℤ w ≡ y +ℤ neg_ℤ w
              minus y w = omega (arith, ints)

          by : (x ≡ t.at) ⊎ (IsBelow x t.at ⊎ IsBelow t.at x) → Rests b after_step x
          by (inl same) = subst (Rests b after_step) (sym same) (rests_left b after_step t.at s.by due.lead due.others due.reducer floor)
          by (inr (inl h)) = rests_zero b after_step x r.entries (below_after x h ∙ z)
          by (inr (inr h)) = rests_at b before after_step x (sym (above_after x h)) (r.settled x (above_open x h))

      pub goes_on : length ss < STEPS → length rest' + length dividend' ≤ TERMS → Running b v (ss ++ s ∷ []) rest' dividend'
      goes_on few short = record {
        entries = r.entries;
        sparse = sparse_after;
        short = short;
        runs = runs_push b ss v before after_step s r.runs next (record {
          narrow = narrow_step k made.left made.narrow;
          count = length (rest' ++ dividend');
          terms = terms_after;
          short = omega (arith, length-append rest' dividend', short);
        }) after_step_is;
        settled = settled_after;
        most = omega (arith, length-append ss (s ∷ []), few);
        are = all_push _ ss s r.are (long, read_within b s.by (due.lead ∷ due.others) due.reducer.entry);
      }

      pub stops_long : length ss < STEPS → TERMS < length rest' + length dividend' → ChainStops b v (Long (length rest' + length dividend') (length ss + 1))
      stops_long few many =
          let count : length (rest' ++ dividend') ≡ length rest' + length dividend' = length-append rest' dividend' in
          record {
            steps = ss;
            last = before;
            step = s;
            runs = r.runs;
            next = next;
            stops = (few, (refl, narrow_step k made.left made.narrow, subst (HasTerms (after b before s)) count terms_after, many));
          }

  -- ---- the vector after the step, as one row

  module _ (w : List Term) (few : length ss < STEPS) (made : IsMade IsWideAt (difference_at before taken) w) where
    above_row : (x : Place) → IsBelow t.at x → coefficient_at w x ≡ before x
    above_row x h = omega (arith, ints, made.is x, above_taken x h)

    front_row : take (length rest) w ≡ rest
    front_row = same_front t.at rest w (record {
      falling = falls_front rest (t ∷ dividend) r.sparse.falling;
      terms = all_front IsTerm rest (t ∷ dividend) r.sparse.terms;
    }) made.vector.sparse rest_above
        (λ x h. omega (arith, ints, above_row x h, at_join rest (t ∷ dividend) x, above_open x h))

    whole_row : take (length rest) w ++ drop (length rest) w ≡ w
    whole_row = take-append-drop (length rest) w

    below_row : (x : Place) → IsBelow x t.at → coefficient_at w x ≡ coefficient_at (drop (length rest) w) x
    below_row x h =
        let whole : rest ++ drop (length rest) w ≡ w = ap (λ (u : List Term). u ++ drop (length rest) w) (sym front_row) ∙ whole_row in
        let same : coefficient_at (rest ++ drop (length rest) w) x ≡ coefficient_at w x = ap (λ (u : List Term). coefficient_at u x) whole in
        omega (arith, ints, same, at_join rest (drop (length rest) w) x, at_below x rest (AllAbove_transitive test order t.at x h (sum_of rest) rest_above))

    row_is : (x : Place) → coefficient_at w x ≡ after b before s x
    row_is = of_step (λ g. (x : Place) → coefficient_at w x ≡ before x -ℤ g x) made.is

    settled_row : (x : Place) → coefficient_at (drop (length rest) w) x ≡ pos 0 → Rests b (coefficient_at w) x
    settled_row x z = by (order.total x t.at)
      where
        floor : int_div_euclid (coefficient_at w t.at) due.lead.k ≡ pos 0
        floor =
            let q : coefficient_at w t.at ≡ t.k -ℤ int_div_euclid t.k due.lead.k *ℤ due.lead.k = made.is t.at ∙ left_here
            ∙ ap (λ y. t.k -ℤ y *ℤ due.lead.k) due.factor in
            ap (λ y. int_div_euclid y due.lead.k) (q ∙ minus t.k (int_div_euclid t.k due.lead.k *ℤ due.lead.k)) ∙ floor_left t.k due.lead.k positive
          where
            minus : (y w : ℤ) → y -ℤ w ≡ y +ℤ neg_ℤ w
            minus y w = omega (arith, ints)

        by : (x ≡ t.at) ⊎ (IsBelow x t.at ⊎ IsBelow t.at x) → Rests b (coefficient_at w) x
        by (inl same) = subst (Rests b (coefficient_at w)) (sym same) (rests_left b (coefficient_at w) t.at s.by due.lead due.others due.reducer floor)
        by (inr (inl h)) = rests_zero b (coefficient_at w) x r.entries (below_row x h ∙ z)
        by (inr (inr h)) = rests_at b before (coefficient_at w) x (sym (above_row x h)) (r.settled x (above_open x h))

    running_row : Running b v (ss ++ s ∷ []) (take (length rest) w) (drop (length rest) w)
    running_row = record {
      entries = r.entries;
      sparse = subst IsSparse (sym whole_row) made.vector.sparse;
      short = omega (arith, ap (λ (u : List Term). length u) whole_row, length-append (take (length rest) w) (drop (length rest) w), made.vector.most);
      runs = subst (λ (u : List Term). Runs b v (ss ++ s ∷ []) (coefficient_at u)) (sym whole_row)
          (runs_push b ss v before (coefficient_at w) s r.runs next (record {
            narrow = of_step (λ g. Nowhere (DifferenceIsWide before g)) made.narrow;
            count = length w;
            terms = record { v = w; sparse = made.vector.sparse; is = row_is; count = refl };
            short = made.vector.most;
          }) row_is);
      settled = λ x z. subst (λ (u : List Term). Rests b (coefficient_at u) x) (sym whole_row) (settled_row x z);
      most = omega (arith, length-append ss (s ∷ []), few);
      are = all_push _ ss s r.are (long, read_within b s.by (due.lead ∷ due.others) due.reducer.entry);
    }

    pub goes_merged : Running b v (ss ++ s ∷ []) (take (length rest) w) (drop (length rest) w) × (length rest ≤ length w)
    goes_merged = (
      running_row,
      omega (
        arith,
        ap (λ (u : List Term). length u) front_row,
        ap (λ (u : List Term). length u) whole_row,
        length-append (take (length rest) w) (drop (length rest) w),
      ),
    )

  pub stops_merged : (stop : Stop) → length ss < STEPS → StopsBy 0 IsWideAt (difference_at before taken) stop → ChainStops b v (stop_at stop (length ss + 1))
  stops_merged (Wide p n) few h = record {
    steps = ss;
    last = before;
    step = s;
    runs = r.runs;
    next = next;
    stops = (few, (refl, of_step (λ g. IsGreatest (DifferenceIsWide before g) p) h.1));
  }
  stops_merged (Long terms n) few h = record {
    steps = ss;
    last = before;
    step = s;
    runs = r.runs;
    next = next;
    stops = (few, (refl, of_step (λ g. Nowhere (DifferenceIsWide before g)) h.1, of_step (λ g. HasTerms (difference_at before g) terms) h.2, h.3));
  }
  stops_merged Deep few h = absurd h
  stops_merged (Steep d) few h = absurd h

-- ---- the end and the start

-- nothing is open any more
pub ends : (b : List (List Term)) (v : Coefficients) (ss : List Step) (rest dividend : List Term) → Running b v ss rest dividend → dividend ≡ []
    → IsRest b v rest ss
ends b v ss rest dividend r none =
    let whole : rest ++ dividend ≡ rest = ap (λ w. rest ++ w) none ∙ append-nil rest in
    let runs : Runs b v ss (coefficient_at rest) = subst (λ w. Runs b v ss (coefficient_at w)) whole r.runs in
    record {
      vector = record { sparse = subst IsSparse whole r.sparse; most = omega (arith, r.short) };
      runs = runs;
      end = λ x. subst (λ w. Rests b (coefficient_at w) x) whole (r.settled x (ap (λ w. coefficient_at w x) none));
      most = r.most;
      are = r.are;
      sum = runs_sum b ss v (coefficient_at rest) runs;
    }

pub starts : (b : List (List Term)) (v : List Term) (ss : List Step) (rest dividend : List Term) → AreEntries b → IsVector v → ss ≡ [] → rest ≡ []
    → dividend ≡ v → Running b (coefficient_at v) ss rest dividend
starts b v ss rest dividend h k none nothing all =
    subst (λ w. Running b (coefficient_at v) w rest dividend) (sym none)
    (subst (λ w. Running b (coefficient_at v) [] w dividend) (sym nothing)
    (subst (λ w. Running b (coefficient_at v) [] [] w) (sym all)
    (record {
      entries = h;
      sparse = k.sparse;
      short = omega (arith, k.most);
      runs = λ x. refl;
      settled = λ x z. rests_zero b (coefficient_at v) x h z;
      most = omega arith;
      are = tt;
    })))
