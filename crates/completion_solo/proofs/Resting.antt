-- What the work of a task by a whole log can come to: a rest that no lead divides, or a limit, and never both.
use Rattle.std.proofs.Common.{ℕ, zero, suc, ◌<◌, ◌≡◌, ◌≢◌, inl, inr, arith, refl, sym, ap, ◌∙◌, List, [], ◌∷◌, length, Bool, true, false, subst, MatchBool, ℤ}
use Rattle.std.proofs.Common.{pos, negsuc, ◌*ℤ◌}
use borrow.Author.Differences.{ints}
use Rattle.std.specs.Prelude.{◌<ℤ◌, ◌≤ℤ◌, Err}
use Rattle.formal_sums.specs.FormalSum.{scale}
use Rattle.presentation.specs.Presented.{Presented}
use Rattle.module_vec.specs.declared.places.Place.{Place}
use Rattle.module_vec.specs.declared.places.Term.{Term}
use Rattle.module_vec.specs.declared.steps.Step.{Step}
use Rattle.module_vec.specs.declared.faults.Stop.{Stop}
use Rattle.module_vec.specs.declared.faults.Stop.TheVariants.{Wide, Long, Deep, Steep}
use Rattle.module_vec.specs.Modules.{vector_at}
use Rattle.module_vec.specs.Reducers.{AreEntries, IsEntry}
use Rattle.module_vec.specs.Results.{StopsBy, IsMade}
use Rattle.module_vec.specs.Vectors.{Coefficients, sum_of, coefficient_at, IsVector}
use Rattle.module_vec.proofs.Determined.{same_vector}
use Rattle.module_vec.proofs.Lookups.{coefficient_read}
use Rattle.outcomes.specs.declared.tasks.Task.{Task}
use Rattle.reduce_cofactor.specs.Answers.{IsRest}
use Rattle.reduce_cofactor.proofs.Answering.{rest_or_stop}
use Rattle.strong_pairs.specs.declared.faults.PairFault.TheVariants as of_pair
use Rattle.strong_pairs.specs.Pairs.{lead_of, lead_at, IsPair}
use Rattle.strong_pairs.specs.Results.{MakesPair, IsPairVector, StopsPair, BothAreMade, BothStop}
use Rattle.strong_pairs.proofs.Determination.{same_steps}
use Rattle.strong_pairs.proofs.Entered.{as_entry, behind}
use Rattle.strong_pairs.proofs.Exactness.{at_end}
use Rattle.basis_entry.specs.Base.{has_negative_lead}
use Rattle.basis_entry.proofs.Vectors.{positive_entry, turned_entry}
use Rattle.basis_entry.specs.Entries.{BasisEntry}
use Rattle.pair_work.specs.declared.outcome.Close.{Close}
use Rattle.pair_work.specs.declared.outcome.Close.TheVariants.{Covered, Zero, Rest}
use Rattle.pair_book.specs.Logs.{DividesLead}
use Rattle.pair_work.specs.Works.{Reduces, LeavesRest, ClosesAs, Halts, Stops}
use Rattle.pair_work.proofs.Turning.{at_turned}

-- ---- a rest and a limit exclude one another

stops_or_made : (step : ℕ) (P : Place → Type 0) (f : Coefficients) (v : List Term) (stop : Stop) → StopsBy step P f stop → IsMade P f v → ⊥
stops_or_made step P f v (Wide p n) (is, wide) made = made.narrow p wide.here
stops_or_made step P f v (Long terms n) (is, nowhere, has, long) made =
    let same = same_vector has.v v has.sparse made.vector.sparse (λ x. has.is x ∙ sym (made.is x)) in
    let l : length has.v ≡ length v = ap length same in
    let c = has.count in
    let m = made.vector.most in
    absurd (omega (arith, l, c, m, long))
stops_or_made step P f v Deep h made = h
stops_or_made step P f v (Steep d) h made = h

module _ (b : List (List Term)) (entries : AreEntries b) (t : Task) (pair : IsPair b t.i t.j) where
  -- the sums that the pair's vector is made of, over other names of its steps
  made_by : (v : List Term) (is : IsPairVector t.kind b t.i t.j v) (first second : Step) → (is.first ≡ first) × (is.second ≡ second)
      → BothAreMade b first second v
  made_by v is first second (one, two) = subst (λ (s : Step). BothAreMade b s second v) one (subst (λ (s : Step). BothAreMade b is.first s v) two is.made)

  both_or_stop : (v : List Term) (first second : Step) (stop : Stop) → BothAreMade b first second v → BothStop b first second stop → ⊥
  both_or_stop v first second stop (one, two) (inl h) = stops_or_made 0 _ _ one.0 stop h one.1
  both_or_stop v first second stop (one, two) (inr (made, h)) = stops_or_made 0 _ _ v stop h two

  vector_or_stop : (v : List Term) (stop : Stop) → IsPairVector t.kind b t.i t.j v → StopsPair t.kind b t.i t.j stop → ⊥
  vector_or_stop v stop is h = both_or_stop v h.first h.second stop (made_by v is h.first h.second
      (same_steps b entries t.kind t.i t.j pair is.first is.second h.first h.second is.steps h.steps)) h.stops

  vector_or_none : (v : List Term) (stop : Stop) → IsPairVector t.kind b t.i t.j v → MakesPair t.kind b t.i t.j (Err (of_pair.Stop stop)) → ⊥
  vector_or_none v (Steep d) is (much, same) = let r = is.reach in omega (arith, much, same, r)
  vector_or_none v (Wide p n) is h = vector_or_stop v (Wide p n) is h
  vector_or_none v (Long terms n) is h = vector_or_stop v (Long terms n) is h
  vector_or_none v Deep is h = h

  one_vector : (v w : List Term) → IsPairVector t.kind b t.i t.j v → IsPairVector t.kind b t.i t.j w → v ≡ w
  one_vector v w is h = by (made_by v is h.first h.second (same_steps b entries t.kind t.i t.j pair is.first is.second h.first h.second is.steps
      h.steps)) h.made
    where
      by : BothAreMade b h.first h.second v → BothAreMade b h.first h.second w → v ≡ w
      by (_, m) (_, n) = same_vector v w m.vector.sparse n.vector.sparse (λ x. m.is x ∙ sym (n.is x))

  reduces_or_halts : (steps : List Step) (w : List Term) (stop : Stop) → Reduces b t steps w → Halts b t stop → ⊥
  reduces_or_halts steps w stop r (inl h) = vector_or_none r.vector stop r.pair h
  reduces_or_halts steps w stop r (inr (v, is, h)) = rest_or_stop b (coefficient_at v) w steps stop
      (subst (λ (u : List Term). IsRest b (coefficient_at u) w steps) (one_vector r.vector v r.pair is) r.rest) h

  pub closes_or_stops : (p : Presented) (close : Close) (stop : Stop) → ClosesAs p b t close → Stops b t stop → ⊥
  closes_or_stops p (Covered by) stop (kind, found) (un, h) = un kind by found.0 found.1
  closes_or_stops p (Zero steps) stop r (un, h) = reduces_or_halts steps [] stop r h
  closes_or_stops p (Rest e) stop r (un, h) = reduces_or_halts r.steps r.rest stop r.reduces h
