-- What a worker's turn does, from what the calls on the book say.
use Rattle.std.proofs.Common.{ℕ, ◌<◌, ◌≤◌, ◌≡◌, ◌≢◌, inl, inr, arith, refl, sym, ap, ◌∙◌, List, [], ◌∷◌, ◌++◌, length, length-append, set, Bool}
use Rattle.std.proofs.Common.{true, false}
use Rattle.std.proofs.Common.{Option, Some, None, subst, append-nil, slice_get}
use Rattle.std.specs.Prelude.{Ok, Err, ◌↔◌, IsTrue}
use Rattle.std.proofs.lemmas.List.{set-set, set-get_or, length-map}
use Rattle.std.specs.Arc.{arc_value}
use Rattle.presentation.specs.Presented.{Presented}
use Rattle.outcomes.specs.declared.ends.Measure.{Measure}
use Rattle.outcomes.specs.declared.ends.Measure.TheVariants.{Entries, Terms, Steps}
use Rattle.outcomes.specs.declared.kinds.PairKind.{PairKind}
use Rattle.outcomes.specs.declared.tasks.Task.{Task}
use Rattle.module_vec.specs.declared.places.Term.{Term}
use Rattle.module_vec.specs.declared.faults.Stop.{Stop}
use Rattle.strong_pairs.specs.Pairs.{IsPair, lead_of}
use Rattle.strong_pairs.specs.Tasks.{IsClosed}
use Rattle.task_table.specs.declared.states.TaskState.{TaskState}
use Rattle.task_table.specs.declared.states.TaskState.TheVariants.{Open, Taken, Hard, Closed, Never}
use Rattle.task_table.specs.declared.states.Wanted.TheVariants.{OpenOnes}
use Rattle.task_table.specs.Tasks.{IsTask, number_of, is_open, is_taken, is_unclosed, is_never, is_closed_later}
use Rattle.task_table.specs.Tables.{Table, NoneIs, state_of, put}
use Rattle.task_table.proofs.Putting.{put_same}
use Rattle.reducer_index.specs.Leads.{AreLeads}
use Rattle.basis_entry.specs.Entries.{BasisEntry, vectors_of}
use Rattle.basis_entry.specs.Seals.{Seal}
use Rattle.basis_entry.proofs.Vectors.{are_entries}
use Rattle.pair_work.specs.declared.outcome.Close.{Close}
use Rattle.pair_work.specs.declared.outcome.Close.TheVariants.{Covered, Zero, Rest}
use Rattle.pair_book.specs.declared.faults.CommitFault.TheVariants as faults
use Rattle.pair_book.specs.declared.faults.Committed.{Committed}
use Rattle.pair_book.specs.declared.faults.Committed.TheVariants as done
use Rattle.pair_book.specs.declared.faults.SealFault.TheVariants as seals
use Rattle.pair_book.specs.Books.{Held, IsBook, IsTaken, IsSealed, IsSealedBy, IsNotSealed, GivesBack, TakesTask, with_state}
use Rattle.pair_book.specs.Chaining.{AreChained, ClosesChained, IsDue, is_waiting}
use Rattle.pair_book.specs.Commits.{Commits, Refuses, Fits, Passes, OnRest, IfRest, IsFresh, IsLeadDivisor, closed_by, appended_by}
use Rattle.pair_book.specs.Logs.{NoneDivides}
use Rattle.pair_work.specs.Outcomes.{Worked, IsThere, AllThere, IsOutcome, IsTrueOf}
use Rattle.pair_work.specs.declared.faults.WorkFault.TheVariants as work
use Rattle.pair_work.specs.Works.{Works, LeavesRest, ClosesAs}
use Rattle.pair_book.proofs.Growing.{vectors_push}
use Rattle.pair_book.proofs.Keeping.{task_in, task_out, open_unclosed, taken_unclosed, book_take}
use Rattle.pair_work.proofs.Reading.{get_left}
use Rattle.interleave_core.proofs.Tasks.{not_both, either}
use Rattle.interleave_core.proofs.Tasks.{task_of, unclosed_not_never}
use Rattle.pair_book.proofs.Undivided.{undivided}
use Rattle.interleave_core.proofs.Resting.{rest_known}
use Rattle.interleave_core.specs.declared.hands.Hand.{Hand}
use Rattle.interleave_core.specs.declared.hands.Hand.TheVariants.{Idle, Holds, Stopped}
use Rattle.interleave_core.specs.Inner.{IsUnclosed}
use Rattle.interleave_core.specs.Machine.{State, HoldsWork, HasNoRest, IsTrulyClosed, AlsoCloses, AppendsEntry, Turns}
use Rattle.interleave_core.specs.Invariants.{IsOutcomeOf, IsHand, IsCore}
use Rattle.interleave_core.proofs.Lists.{none_left}

-- ---- an idle worker

open_state : (s : TaskState) → is_open s ≡ true → s ≡ Open
open_state Open e = refl
open_state Taken e = cc
open_state Hard e = cc
open_state Closed e = cc
open_state Never e = cc

put_back : (tasks : Table) (t : Task) → is_open (state_of tasks t) ≡ true → put (put tasks t Taken) t Open ≡ tasks
put_back tasks t is = ap (λ (l : List TaskState). record tasks { states = l }) (set-set tasks.states (number_of t) Taken Open
    ∙ (ap (λ (s : TaskState). set tasks.states (number_of t) s) (sym (open_state (state_of tasks t) is)) ∙ set-get_or tasks.states (number_of t) Never))

-- the work of a task by the log is the same while states change
pub works_before : (h : Held) (u : Task) (s : TaskState) (t : Task) (hand : Hand) → HoldsWork (with_state h u s) t hand → HoldsWork h t hand
works_before h u s t Idle w = w
works_before h u s t (Holds o) w = w
works_before h u s t (Stopped v stop) w = w

pub works_behind : (h : Held) (u : Task) (s : TaskState) (t : Task) (hand : Hand) → HoldsWork h t hand → HoldsWork (with_state h u s) t hand
works_behind h u s t Idle w = w
works_behind h u s t (Holds o) w = w
works_behind h u s t (Stopped v stop) w = w

pub none_taken_now : (old mid : Held) → TakesTask old None mid → mid ≡ old
none_taken_now old mid (is, (none, tasks)) = is ∙ ap (λ (z : Table). record old { tasks = z }) tasks

-- what the work by an indexed log gives to a worker
pub holds_outcome : (p : Presented) (list h : Held) (t : Task) (w : Worked) → list ≡ h → h.source ≡ p → Works p list.entries t (Ok w)
    → HoldsWork h t (Holds w)
holds_outcome p list h t w same source works = subst (λ (q : Presented). Works q h.entries t (Ok w)) (sym source)
    (subst (λ (x : Held). Works p x.entries t (Ok w)) same works)

pub holds_stop : (p : Presented) (list h : Held) (t : Task) (stop : Stop) → list ≡ h → h.source ≡ p → Works p list.entries t (Err (work.Stop stop))
    → HoldsWork h t (Stopped t stop)
holds_stop p list h t stop same source works = (
  refl,
  subst (λ (q : Presented). Works q h.entries t (Err (work.Stop stop))) (sym source)
      (subst (λ (x : Held). Works p x.entries t (Err (work.Stop stop))) same works),
)

module _ (old mid : Held) (t : Task) (b : IsBook old) (takes : TakesTask old (Some t) mid) where
  pub taken_now : mid ≡ with_state old t Taken
  taken_now = takes.0 ∙ ap (λ (z : Table). record old { tasks = z }) takes.1.1

  pub book_taken : IsBook mid
  book_taken = subst IsBook (sym takes.0) (book_take old (Some t) mid.tasks b takes.1)

  pub source_taken : (p : Presented) → old.source ≡ p → mid.source ≡ p
  source_taken p e = ap (λ (h : Held). h.source) takes.0 ∙ e

  pub leads_taken : (leads : List Term) → AreLeads (vectors_of old.entries) leads → AreLeads (vectors_of mid.entries) leads
  leads_taken leads are = subst (λ (h : Held). AreLeads (vectors_of h.entries) leads) (sym takes.0) are

  pub pair_taken : IsPair (vectors_of mid.entries) t.i t.j
  pair_taken = subst (λ (h : Held). IsPair (vectors_of h.entries) t.i t.j) (sym takes.0)
      (task_of old b t (task_out old t b takes.1.0.task) (unclosed_not_never (state_of old.tasks t) (open_unclosed (state_of old.tasks t) takes.1.0.is)))

  pub started : (hand : Hand) → HoldsWork mid t hand → Turns old Idle mid hand
  started hand works = inl (record {
    task = t;
    least = takes.1.0;
    is = taken_now;
    work = works_before old t Taken t hand (subst (λ (h : Held). HoldsWork h t hand) taken_now works);
  })

  pub restored : (new : Held) → GivesBack mid t false new → new ≡ old
  restored new gives =
      gives.taken (subst (λ (h : Held). IsTaken h t) (sym taken_now)
      (task_out old t b takes.1.0.task, ap is_taken (put_same old.tasks t Taken b.table takes.1.0.task)))
      ∙ (ap (λ (h : Held). with_state h t Open) taken_now ∙ ap (λ (z : Table). record old { tasks = z }) (put_back old.tasks t takes.1.0.is))

pub sealed_now : (old new : Held) (s : Seal) → IsSealed old s new → Turns old Idle new Idle
sealed_now old new s (closed, is, new_is) = inr (inl (record {
  closed = closed;
  is = new_is ∙ ap (λ (z : Seal). record old { seal = Some z }) is;
  idle = refl;
}))

pub found_none : (old new : Held) (t : Task) → NoneIs OpenOnes old.tasks → IsNotSealed old (seals.StillOpen t) new → Turns old Idle new Idle
found_none old new t none (least, is) = inr (inr (record {
  none_open = none;
  unclosed = λ closed. not_both (is_unclosed (state_of old.tasks t)) least.is (closed t least.task);
  is = is;
  idle = refl;
}))

-- once the log is sealed an idle worker changes nothing
pub still_sealed : (h : Held) (s : Seal) → IsBook h → h.seal ≡ Some s → Turns h Idle h Idle
still_sealed h s b e =
    let by : IsSealedBy h (Some s) = subst (IsSealedBy h) e b.seal in
    inr (inl (record { closed = by.1; is = ap (λ (z : Option Seal). record h { seal = z }) (e ∙ ap Some by.0); idle = refl }))

-- ---- some task isn't closed

-- a worker that holds something has a task that is taken
hand_unclosed : (h : Held) (x : Hand) → IsBook h → IsHand h x → (x ≡ Idle → ⊥) → IsUnclosed h
hand_unclosed h Idle b hand busy none = busy refl
hand_unclosed h (Holds w) b hand busy none =
    not_both (is_unclosed (state_of h.tasks w.task)) (taken_unclosed (state_of h.tasks w.task) hand.0.1) (none w.task (task_in h w.task b hand.0.0))
hand_unclosed h (Stopped t stop) b hand busy none =
    not_both (is_unclosed (state_of h.tasks t)) (taken_unclosed (state_of h.tasks t) hand.1) (none t (task_in h t b hand.0))

pub busy_unclosed : (s : State) → IsCore s → (n : ℕ) (x : Hand) → slice_get s.hands n ≡ Some x → (x ≡ Idle → ⊥) → IsUnclosed s.book
busy_unclosed s c n x at busy = hand_unclosed s.book x c.book (c.hands n x at) busy

-- a worker that held nothing, and holds nothing now, found nothing to do, if the log isn't sealed
idle_unclosed : (old new : Held) → new.seal ≡ None → Turns old Idle new Idle → IsUnclosed new
idle_unclosed old new unsealed (inl starts) = absurd starts.work
idle_unclosed old new unsealed (inr (inl seals)) =
    let s : Seal = record { source = old.source; entries = old.entries } in
    let e : Some s ≡ None = sym (ap (λ (h : Held). h.seal) seals.is) ∙ unsealed in
    absurd (cc)
idle_unclosed old new unsealed (inr (inr none)) = subst IsUnclosed (sym none.is) none.unclosed

pub nothing_found : (old new : Held) (x y : Hand) → x ≡ Idle → y ≡ Idle → new.seal ≡ None → Turns old x new y → IsUnclosed new
nothing_found old new x y p q unsealed turns = idle_unclosed old new unsealed
    (subst (λ (a : Hand). Turns old a new Idle) p (subst (λ (b : Hand). Turns old x new b) q turns))

-- where no task is open, and one isn't closed, nothing is found
pub none_found : (old mid : Held) → TakesTask old None mid → IsUnclosed old → IsUnclosed mid
none_found old mid takes unclosed = subst IsUnclosed (sym (none_taken_now old mid takes)) unclosed

-- ---- what a worker holds

taken_seal : (h : Held) (t : Task) (seal : Option Seal) → IsBook h → IsTaken h t → IsSealedBy h seal → seal ≡ None
taken_seal h t None b taken is = refl
taken_seal h t (Some s) b taken (is, none) = absurd (not_both (is_unclosed (state_of h.tasks t)) (taken_unclosed (state_of h.tasks t) taken.1)
    (none t (task_in h t b taken.0)))

-- while a task is taken the log isn't sealed
pub not_sealed : (h : Held) (t : Task) → IsBook h → IsTaken h t → h.seal ≡ None
not_sealed h t b taken = taken_seal h t h.seal b taken b.seal

module _ (h : Held) (w : Worked) (o : IsOutcomeOf h w) where
  pub all_there : AllThere h.entries w.used
  all_there m u at = subst (λ (es : List BasisEntry). IsThere es u) (sym o.entries) (get_left o.first o.more u.number u.entry (o.works.2 m u at))

  pub source_known : IfRest w.close (λ e. e.source ≡ h.source)
  source_known = rest_known h.source (vectors_of o.first) w.task w.close o.works.3

  pub front_within : w.front ≤ length h.entries
  front_within =
      let f = o.works.1 in
      let l : length h.entries ≡ length (o.first ++ o.more) = ap length o.entries in
      let a = length-append o.first o.more in
      omega (arith, f, l, a)

  whole : length h.entries ≤ w.front → o.first ≡ h.entries
  whole le =
      let f = o.works.1 in
      let l : length h.entries ≡ length (o.first ++ o.more) = ap length o.entries in
      let a = length-append o.first o.more in
      let n : o.more ≡ [] = none_left o.more (omega (arith, f, l, a, le)) in
      sym (o.entries ∙ (ap (λ (m : List BasisEntry). o.first ++ m) n ∙ append-nil o.first))

  on_rest : (close : Close) (P : BasisEntry → Type 0) → ClosesAs h.source (vectors_of o.first) w.task close → OnRest close P
      → (e : BasisEntry) × LeavesRest h.source (vectors_of o.first) w.task e × P e
  on_rest (Covered by) P c on = absurd on
  on_rest (Zero steps) P c on = absurd on
  on_rest (Rest e) P c on = (arc_value e, c, on)

  pub no_stranger : (k : ℕ) → IsBook h → Refuses h w (Some (faults.Stranger k)) → ⊥
  no_stranger k b (_, inl s) = s.differs (all_there s.place s.one s.found)
  no_stranger k b (_, inr (inl (_, on))) = by (on_rest w.close (λ e. (e.source ≢ h.source) × (k ≡ length h.entries)) o.works.3 on)
    where
      by : (e : BasisEntry) × LeavesRest h.source (vectors_of o.first) w.task e × ((e.source ≢ h.source) × (k ≡ length h.entries)) → ⊥
      by (e, leaves, (ne, _)) = ne leaves.entry.source
  no_stranger k b (_, inr (inr on)) = by (on_rest w.close (λ e. IsFresh h w e × IsLeadDivisor h.entries e k) o.works.3 on)
    where
      by : (e : BasisEntry) × LeavesRest h.source (vectors_of o.first) w.task e × (IsFresh h w e × IsLeadDivisor h.entries e k) → ⊥
      by (e, leaves, (fresh, divisor)) =
          let l = length-map h.entries (λ (x : BasisEntry). x.vector) in
          let n = divisor.within in
          undivided h.source (vectors_of h.entries) w.task e (are_entries h.entries b.lawful.entries)
          (subst (λ (es : List BasisEntry). LeavesRest h.source (vectors_of es) w.task e) (whole fresh.front) leaves) k (omega (arith, l, n)) divisor.divides

  pub may_commit : IsBook h → IsTaken h w.task → Refuses h w (Some faults.NotTaken) → ⊥
  may_commit b taken refused = refused (taken, not_sealed h w.task b taken)

  -- ---- refusals

  pub spent_back : (n : ℕ) (new : Held) (hand : Hand) → Refuses h w (Some (faults.Spent n)) → new ≡ with_state h w.task Open → hand ≡ Idle
      → Turns h (Holds w) new hand
  spent_back n new hand (_, spent, _) is idle = inl (record { spent = spent; is = is; idle = idle })

  pub stale_again : (front now : ℕ) (hand : Hand) → Refuses h w (Some (faults.Stale front now)) → HoldsWork h w.task hand → Turns h (Holds w) h hand
  stale_again front now hand (budget, _, on) works = inr (inr (inl (record {
    budget = budget.1;
    stale = stale w.close on;
    is = refl;
    work = works;
  })))
    where
      stale : (close : Close) → OnRest close (λ e. (e.source ≡ h.source) × (front ≡ w.front) × (now ≡ length h.entries) × (front < now))
          → OnRest close (λ e. w.front < length h.entries)
      stale (Covered by) is = is
      stale (Zero steps) is = is
      stale (Rest e) (_, f, n, lt) = omega (arith, f, n, lt)

  no_fit : (e : BasisEntry) (m : Measure) (c : ℕ) → Passes h e m c → Fits h e → ⊥
  no_fit e Entries c (is, lt) (entries, terms, steps) = omega (arith, is, lt, entries)
  no_fit e Terms c (_, is, lt) (entries, terms, steps) = omega (arith, is, lt, terms)
  no_fit e Steps c (_, _, is, lt) (entries, terms, steps) = omega (arith, is, lt, steps)

  pub full_back : (m : Measure) (c : ℕ) (new : Held) (hand : Hand) → Refuses h w (Some (faults.Full m c)) → new ≡ with_state h w.task Open → hand ≡ Idle
      → Turns h (Holds w) new hand
  full_back m c new hand on is idle = inr (inr (inr (inl (record {
    budget = budget w.close on;
    full = full w.close on;
    is = is;
    idle = idle;
  }))))
    where
      budget : (close : Close) → OnRest close (λ e. IsFresh h w e × NoneDivides (vectors_of h.entries) (lead_of e.vector) × Passes h e m c)
          → h.limits.budget ≢ Some h.commits
      budget (Covered by) is = absurd is
      budget (Zero steps) is = absurd is
      budget (Rest e) (fresh, _, _) = fresh.budget.1

      full : (close : Close) → OnRest close (λ e. IsFresh h w e × NoneDivides (vectors_of h.entries) (lead_of e.vector) × Passes h e m c)
          → OnRest close (λ e. (w.front ≡ length h.entries) × (Fits h e → ⊥))
      full (Covered by) is = is
      full (Zero steps) is = is
      full (Rest e) (fresh, _, passes) = (
        (let f = fresh.front in let l = front_within in omega (arith, f, l)),
        no_fit (arc_value e) m c passes,
      )

-- ---- commits

closed_state : (s : TaskState) → is_closed_later s ≡ true → s ≡ Closed
closed_state Open e = cc
closed_state Taken e = cc
closed_state Hard e = cc
closed_state Closed e = refl
closed_state Never e = cc

due_waits : (n : ℕ) (h : Held) (a b : ℕ) (u : Task) → IsDue n h a b u → is_waiting (state_of h.tasks u) ≡ true
due_waits n h a b u due = elim due.either [
  | inl (e, d) ↦ ap (λ (z : Task). is_waiting (state_of h.tasks z)) e ∙ d.waiting
  | inr (e, d) ↦ ap (λ (z : Task). is_waiting (state_of h.tasks z)) e ∙ d.waiting
]

-- what the chain rule closes is truly closed
also_chained : (mid new : Held) (a b : ℕ) → IsBook new → AreChained (length mid.entries) mid a b new → AlsoCloses mid new
also_chained mid new a b k c = record {
  is = c.rest;
  each = λ u t. elim (either (is_closed_later (state_of new.tasks u))) [
    | inr n ↦ inl (c.same u t (λ due. not_both (is_closed_later (state_of new.tasks u)) (ap is_closed_later (c.closed u t due)) n))
    | inl y ↦ elim (either (is_waiting (state_of mid.tasks u))) [
      | inr n ↦ inl (c.same u t (λ due. not_both (is_waiting (state_of mid.tasks u)) (due_waits (length mid.entries) mid a b u due) n))
      | inl waits ↦ inr (waits, truly u t (closed_state (state_of new.tasks u) y), closed_state (state_of new.tasks u) y)
    ]
  ];
}
  where
    same : new.entries ≡ mid.entries
    same = ap (λ (h : Held). h.entries) c.rest

    truly : (u : Task) → IsTask (length mid.entries) u → state_of new.tasks u ≡ Closed → IsTrulyClosed mid.entries u
    truly u t e =
        let l : length new.entries ≡ length mid.entries = ap length same in
        let lt = t.1 in
        let at : IsTask (length new.entries) u = (t.0, omega (arith, l, lt)) in
        let pair = task_of new k u at (ap is_never e) in
        subst (λ (es : List BasisEntry). IsTrulyClosed es u) same (pair, k.truly u at (ap is_unclosed e) pair)

also_same : (mid new : Held) → new ≡ mid → AlsoCloses mid new
also_same mid new e = subst (λ (z : Held). AlsoCloses mid z) (sym e) (record { is = refl; each = λ u k. inl refl })

also_closed : (mid new : Held) (t : Task) (closed : Bool) → IsBook new → ClosesChained mid t closed new → AlsoCloses mid new
also_closed mid new t true b (inl (s, c)) = also_chained mid new t.i t.j b c
also_closed mid new t true b (inr (g, e)) = also_same mid new e
also_closed mid new t false b e = also_same mid new e

no_rest : (close : Close) → (OnRest close (λ e. Unit {0}) → ⊥) → HasNoRest close
no_rest (Covered by) n = tt
no_rest (Zero steps) n = tt
no_rest (Rest e) n = n tt

module _ (old new : Held) (w : Worked) (b : IsBook new) (is : IsOutcome w) (o : IsOutcomeOf old w) where
  appends : (close : Close) (closed : Bool) → IsTrueOf (vectors_of old.entries) w.task close
      → IfRest close (λ e. IsFresh old w e × NoneDivides (vectors_of old.entries) (lead_of e.vector) × Fits old e)
      → OnRest close (λ e. (IsTrue closed ↔ IsClosed (vectors_of (old.entries ++ e ∷ [])) w.task.kind w.task.i w.task.j)
      × ClosesChained (appended_by old w.task e closed) w.task closed new) → OnRest close (λ e. AppendsEntry old w e new)
  appends (Covered by) closed true_of fits on = on
  appends (Zero steps) closed true_of fits on = on
  appends (Rest e) closed true_of (fresh, _, fits) (truly, chained) = record {
    front = let f = fresh.front in let l = front_within old w o in omega (arith, f, l);
    fits = fits;
    closed = closed;
    closed_s = λ s. truly.1 (subst (λ (v : List (List Term)). IsClosed v w.task.kind w.task.i w.task.j) (sym (vectors_push old.entries (arc_value e)))
        (subst (λ (k : PairKind). IsClosed (vectors_of old.entries ++ (arc_value e).vector ∷ []) k w.task.i w.task.j) (sym s) (true_of.closes s)));
    truly = truly;
    closes = also_closed (appended_by old w.task (arc_value e) closed) new w.task closed b chained;
  }

  pub committed : (did : Committed) → Commits old w (Ok did) new → Turns old (Holds w) new Idle
  committed done.Closed (refuses, none, chained) = inr (inl (record {
    budget = refuses.0.1;
    none = no_rest w.close none;
    closes = also_closed (closed_by old w.task) new w.task true b chained;
    idle = refl;
  }))
  committed (done.Appended k closed) (refuses, _, on) = inr (inr (inr (inr (record {
    budget = refuses.0.1;
    appends = appends w.close closed (is.close old.entries (all_there old w o)) refuses.2 on;
    idle = refl;
  }))))
