-- Why a completion ends.
use Rattle.std.proofs.Common.{ℕ, ◌<◌, ◌≡◌, ◌≢◌, ◌⊎◌, inl, inr, arith, refl, sym, ap, ◌∙◌, List, [], length, true, false, Option, Some, None, subst}
use Rattle.std.proofs.lemmas.List.{append-nil, length-map, length-take-le}
use Rattle.std.specs.Prelude.{Ok}
use Rattle.std.specs.Arc.{arc_value}
use Rattle.presentation.specs.Presented.{Presented}
use Rattle.outcomes.specs.declared.ends.End.TheVariants.{Sealed, Stopped, Full, Spent}
use Rattle.outcomes.specs.declared.ends.Measure.{Measure}
use Rattle.outcomes.specs.declared.tasks.Task.{Task}
use Rattle.module_vec.specs.declared.faults.Stop.{Stop}
use Rattle.module_vec.specs.declared.places.Term.{Term}
use Rattle.strong_pairs.specs.Pairs.{lead_of}
use Rattle.task_table.specs.declared.order.Order.{Order}
use Rattle.task_table.specs.declared.states.TaskState.{TaskState}
use Rattle.task_table.specs.declared.states.TaskState.TheVariants.{Open, Taken, Hard, Closed, Never}
use Rattle.task_table.specs.declared.states.Reopened.TheVariants.{HardOnes}
use Rattle.task_table.specs.declared.states.Wanted.TheVariants.{OpenOnes, Unclosed}
use Rattle.task_table.specs.Tasks.{IsTask, number_of, is_open, is_taken, is_hard, is_unclosed, is_never, is_closed_later, reopened}
use Rattle.task_table.specs.Tables.{NoneIs, state_of, reopen}
use Rattle.task_table.specs.Orders.{Before}
use Rattle.task_table.proofs.Hinting.{state_reopened, unclosed_reopened}
use Rattle.basis_entry.specs.Entries.{BasisEntry, vectors_of}
use Rattle.basis_entry.specs.Seals.{Seal}
use Rattle.basis_entry.proofs.Vectors.{are_entries}
use Rattle.pair_work.specs.declared.outcome.Close.{Close}
use Rattle.pair_work.specs.declared.outcome.Close.TheVariants.{Covered, Zero, Rest}
use Rattle.pair_book.specs.declared.faults.CommitFault.{CommitFault}
use Rattle.pair_book.specs.declared.faults.CommitFault.TheVariants as faults
use Rattle.pair_book.specs.Books.{Held, IsBook, IsSealed, IsSealedBy, TakesTask, GivesBack, with_state}
use Rattle.pair_book.specs.Commits.{Refuses, OnRest, Passes, IsStranger, IsFresh, IsLeadDivisor}
use Rattle.pair_book.specs.Logs.{NoneDivides}
use Rattle.pair_work.specs.Outcomes.{Worked, AllThere}
use Rattle.pair_work.specs.Works.{Works, ClosesAs, LeavesRest}
use Rattle.pair_book.proofs.Keeping.{task_in, task_out, open_unclosed, book_reopened}
use Rattle.pair_book.proofs.Strength.{strong}
use Rattle.reducer_index.specs.Leads.{AreLeads}
use Rattle.completion_solo.specs.Ends.{IsFull, IsSpent, IsTaskOf, IsTrulyClosed, AreClosedBefore, StopsAt}
use Rattle.completion_solo.specs.Finishing.{NoneTaken, IsWithinBudget, IsFirstUnclosed, HasNoRoom, EndsWith}
use Rattle.completion_solo.specs.Rounds.{HardOnesStop, IsInHand, HasNoRoomFor, IsFullAt, LeadsOn}
use Rattle.completion_solo.proofs.Counting.{ClosedOnes, closed_ones, all_on}
use Rattle.completion_solo.proofs.Giving.{continues_given, none_given}
use Rattle.completion_solo.proofs.Keeping.{continues_still}
use Rattle.completion_solo.proofs.Numbers.{either, not_both}
use Rattle.pair_book.proofs.Undivided.{undivided}
use Rattle.completion_solo.proofs.Resting.{closes_or_stops}
use Rattle.completion_solo.proofs.Taking.{task_of, not_at_start, unclosed_not_never}
use Rattle.completion_solo.proofs.Weighing.{left_opened}

-- ---- what a book's states say of its tasks

task_in_log : (h : Held) (t : Task) → IsTaskOf h.entries t → IsTask (length h.entries) t
task_in_log h t k = let l = length-map h.entries (λ (e : BasisEntry). e.vector) in let w = k.within in (k.order, omega (arith, l, w))

truly : (h : Held) → IsBook h → (t : Task) → IsTaskOf h.entries t → is_unclosed (state_of h.tasks t) ≡ false → IsTrulyClosed h.entries t
truly h b t k c = b.truly t (task_in_log h t k) c k

closed_before : (h : Held) → IsBook h → (t : Task) → IsFirstUnclosed h t → AreClosedBefore h.limits.order h.entries t
closed_before h b t first u k goes = truly h b u k (first.before u (task_in h u b (task_in_log h u k))
    (subst (λ (o : Order). Before o (vectors_of h.entries) u t) (sym b.order) goes))

unclosed_task : (h : Held) → IsBook h → (t : Task) → IsFirstUnclosed h t → IsTaskOf h.entries t
unclosed_task h b t first = task_of h b t (task_out h t b first.task) (unclosed_not_never (state_of h.tasks t) first.is)

no_seal : (h : Held) (t : Task) (seal : Option Seal) → IsTask h.tasks.count t → is_unclosed (state_of h.tasks t) ≡ true → IsSealedBy h seal → seal ≡ None
no_seal h t None task is by = refl
no_seal h t (Some s) task is (by, none) = absurd (not_both (is_unclosed (state_of h.tasks t)) is (none t task))

pub unsealed : (h : Held) → IsBook h → (t : Task) → IsFirstUnclosed h t → h.seal ≡ None
unsealed h b t first = no_seal h t h.seal first.task first.is b.seal

-- a book with an open task isn't sealed
pub unsealed_open : (h : Held) → IsBook h → (t : Task) (mid : Held) → TakesTask h (Some t) mid → h.seal ≡ None
unsealed_open h b t mid (_, (least, _)) = no_seal h t h.seal least.task (open_unclosed (state_of h.tasks t) least.is) b.seal

-- ---- sealed

sealed_here : (h : Held) (s : Seal) → IsBook h → NoneTaken h → NoneIs Unclosed h.tasks → s ≡ record { source = h.source; entries = h.entries }
    → EndsWith h.source h Sealed (record h { seal = Some s })
sealed_here h s b free none is = (
  record { source = refl; limits = refl; base = refl; more = []; entries = sym (append-nil h.entries); closed = λ t k c. c; commits = omega arith },
  free,
  (none, ap Some is),
  strong h b none,
)

pub ends_sealed : (h new : Held) (s : Seal) → IsBook h → NoneTaken h → IsSealed h s new → EndsWith h.source h Sealed new
ends_sealed h new s b free (none, is, same) = subst (λ (z : Held). EndsWith h.source h Sealed z) (sym same) (sealed_here h s b free none is)

-- ---- spent

later_unclosed : (s : TaskState) → is_closed_later s ≡ true → is_unclosed s ≡ false
later_unclosed Open e = cc
later_unclosed Taken e = cc
later_unclosed Hard e = cc
later_unclosed Closed e = refl
later_unclosed Never e = cc

later_not_never : (s : TaskState) → is_closed_later s ≡ true → is_never s ≡ false
later_not_never Open e = cc
later_not_never Taken e = cc
later_not_never Hard e = cc
later_not_never Closed e = refl
later_not_never Never e = cc

pub ends_spent : (p : Presented) (h : Held) (t : Task) → IsBook h → h.source ≡ p → NoneTaken h → IsFirstUnclosed h t → h.limits.budget ≡ Some h.commits
    → EndsWith p h (Spent h.commits t) h
ends_spent p h t b source free first budget = (
  continues_still h,
  free,
  (budget, refl, first, unsealed h b t first),
  subst (λ (q : Presented). IsSpent q h.limits h.entries h.commits t) source (record {
    budget = budget;
    task = unclosed_task h b t first;
    not_at_start = not_at_start h b t (task_out h t b first.task) (unclosed_not_never (state_of h.tasks t) first.is);
    before = closed_before h b t first;
    gens = b.lawful.begins.gens;
    generators = b.lawful.begins.generators;
    closed = ones.list;
    apart = ones.apart;
    each = all_on (λ u. IsTask h.tasks.count u × (is_closed_later (state_of h.tasks u) ≡ true)) _ ones.list (λ u q.
        let task = task_out h u b q.0 in
        let never = later_not_never (state_of h.tasks u) q.1 in
        let shut = later_unclosed (state_of h.tasks u) q.1 in
        let of = task_of h b u task never in (
          of,
          (λ e. not_both (is_unclosed (state_of h.tasks u)) (ap (λ (z : Task). is_unclosed (state_of h.tasks z)) e ∙ first.is) shut),
          b.truly u task shut of,
          not_at_start h b u task never,
        )) ones.each;
    count =
        let c = b.commits in
        let n = ones.count in
        let g = b.lawful.begins.count in
        let w = b.lawful.within in
        let l = length-take-le h.base h.entries w in
        omega (arith, c, n, g, l);
  }),
)
  where
    ones : ClosedOnes h.tasks
    ones = closed_ones h.tasks b.table

-- ---- stopped

hard_left : (s : TaskState) → is_unclosed s ≡ true → is_open s ≡ false → is_taken s ≡ false → is_hard s ≡ true
hard_left Open u o t = cc
hard_left Taken u o t = cc
hard_left Hard u o t = refl
hard_left Closed u o t = cc
hard_left Never u o t = cc

module _ (h : Held) (b : IsBook h) (free : NoneTaken h) (none : NoneIs OpenOnes h.tasks) (hard : HardOnesStop h) where
  pub unclosed_stops : (u : Task) → IsTask (length h.entries) u → is_unclosed (state_of h.tasks u) ≡ true → (s : Stop) × StopsAt h.entries u s
  unclosed_stops u k c = hard u k (hard_left (state_of h.tasks u) c (none u (task_in h u b k)) (free u k))

  others_stop : (u : Task) → IsTaskOf h.entries u → IsTrulyClosed h.entries u ⊎ ((s : Stop) × StopsAt h.entries u s)
  others_stop u k = elim (either (is_unclosed (state_of h.tasks u))) [
    | inl y ↦ inr (unclosed_stops u (task_in_log h u k) y)
    | inr n ↦ inl (truly h b u k n)
  ]

  pub ends_stopped : (p : Presented) (t : Task) (stop : Stop) → IsWithinBudget h → IsFirstUnclosed h t → StopsAt h.entries t stop
      → EndsWith p h (Stopped t stop) h
  ends_stopped p t stop budget first stops = (
    continues_still h,
    free,
    record { budget = budget; first = first; none_open = none; stops = stops; all = unclosed_stops },
    record { task = unclosed_task h b t first; stops = stops; before = closed_before h b t first; others = others_stop },
  )

  pub never_closes : (p : Presented) (t : Task) (close : Close) → IsFirstUnclosed h t → ClosesAs p (vectors_of h.entries) t close → ⊥
  never_closes p t close first closes =
      let found = unclosed_stops t (task_out h t b first.task) first.is in
      closes_or_stops (vectors_of h.entries) (are_entries h.entries b.lawful.entries) t (unclosed_task h b t first) p close found.0 closes found.1

-- ---- full

on_rest : (p : Presented) (b : List (List Term)) (t : Task) (close : Close) (P : BasisEntry → Type 0) → ClosesAs p b t close → OnRest close P
    → (e : BasisEntry) × LeavesRest p b t e × P e
on_rest p b t (Covered by) P c h = absurd h
on_rest p b t (Zero steps) P c h = absurd h
on_rest p b t (Rest e) P c h = (arc_value e, c, h)

module _ (h : Held) (w : Worked) (b : IsBook h) (hand : IsInHand h w.task) where
  stranger : (k : ℕ) → AllThere h.entries w.used → ClosesAs h.source (vectors_of h.entries) w.task w.close →
      IsStranger h.entries w.used k ⊎ ((AllThere h.entries w.used × OnRest w.close (λ e. (e.source ≢ h.source) × (k ≡ length h.entries)))
      ⊎ OnRest w.close (λ e. IsFresh h w e × IsLeadDivisor h.entries e k)) → ⊥
  stranger k there closes (inl s) = s.differs (there s.place s.one s.found)
  stranger k there closes (inr (inl (_, on))) = by (on_rest h.source (vectors_of h.entries) w.task w.close (λ e. (e.source ≢ h.source)
      × (k ≡ length h.entries)) closes on)
    where
      by : (e : BasisEntry) × LeavesRest h.source (vectors_of h.entries) w.task e × ((e.source ≢ h.source) × (k ≡ length h.entries)) → ⊥
      by (e, leaves, (ne, _)) = ne leaves.entry.source
  stranger k there closes (inr (inr on)) = by (on_rest h.source (vectors_of h.entries) w.task w.close (λ e. IsFresh h w e
      × IsLeadDivisor h.entries e k) closes on)
    where
      by : (e : BasisEntry) × LeavesRest h.source (vectors_of h.entries) w.task e × (IsFresh h w e × IsLeadDivisor h.entries e k) → ⊥
      by (e, leaves, (_, divisor)) =
          let l = length-map h.entries (λ (x : BasisEntry). x.vector) in
          let n = divisor.within in
          undivided h.source (vectors_of h.entries) w.task e (are_entries h.entries b.lawful.entries) leaves k (omega (arith, l, n)) divisor.divides

  stale : (front now : ℕ) → w.front ≡ length h.entries → ClosesAs h.source (vectors_of h.entries) w.task w.close
      → OnRest w.close (λ e. (e.source ≡ h.source) × (front ≡ w.front) × (now ≡ length h.entries) × (front < now)) → ⊥
  stale front now whole closes on = by (on_rest h.source (vectors_of h.entries) w.task w.close (λ e. (e.source ≡ h.source) × (front ≡ w.front)
      × (now ≡ length h.entries) × (front < now)) closes on)
    where
      by : (e : BasisEntry) × LeavesRest h.source (vectors_of h.entries) w.task e × ((e.source ≡ h.source) × (front ≡ w.front) × (now ≡ length h.entries)
          × (front < now)) → ⊥
      by (e, _, (_, f, n, lt)) = omega (arith, whole, f, n, lt)

  no_room : (m : Measure) (c : ℕ) → ClosesAs h.source (vectors_of h.entries) w.task w.close
      → OnRest w.close (λ e. IsFresh h w e × NoneDivides (vectors_of h.entries) (lead_of e.vector) × Passes h e m c) → HasNoRoomFor h w.task m c
  no_room m c closes on = by (on_rest h.source (vectors_of h.entries) w.task w.close (λ e. IsFresh h w e × NoneDivides (vectors_of h.entries) (lead_of e.vector)
      × Passes h e m c) closes on)
    where
      by : (e : BasisEntry) × LeavesRest h.source (vectors_of h.entries) w.task e × (IsFresh h w e × NoneDivides (vectors_of h.entries) (lead_of e.vector)
          × Passes h e m c) → HasNoRoomFor h w.task m c
      by (e, leaves, (_, _, passes)) = record { entry = e; rest = leaves; passes = passes }

  -- a commit of the work by the whole log is refused for want of room alone
  pub refused : (fault : CommitFault) → Works h.source h.entries w.task (Ok w) → Refuses h w (Some fault) → IsFullAt h w.task fault
  refused faults.NotTaken works r = r (hand.taken, hand.budget.1)
  refused (faults.Spent n) works (_, spent, _) = hand.budget.0 spent
  refused (faults.Stranger k) (_, _, there, closes, _) (_, why) = stranger k there closes why
  refused (faults.Stale front now) (_, whole, _, closes, _) (_, _, on) = stale front now whole closes on
  refused (faults.Full m c) (_, _, _, closes, _) on = no_room m c closes on

full_here : (h : Held) (t : Task) (m : Measure) (c : ℕ) → IsBook h → IsInHand h t → HasNoRoomFor h t m c
    → HasNoRoom (with_state h t Open) m c × IsFull h.source h.limits h.entries m c
full_here h t m c b hand n = (
  record {
    budget = hand.budget;
    task = t;
    first = hand.first;
    is_task = hand.pair;
    entry = n.entry;
    rest = n.rest;
    passes = n.passes;
  },
  record { task = t; is_task = hand.pair; entry = n.entry; rest = n.rest; passes = n.passes },
)

pub ends_full : (h new : Held) (t : Task) (m : Measure) (c : ℕ) → IsBook h → IsInHand h t → HasNoRoomFor h t m c → GivesBack h t false new
    → EndsWith h.source h (Full m c) new
ends_full h new t m c b hand n gives = subst (λ (z : Held). EndsWith h.source h (Full m c) z) (sym (gives.taken hand.taken)) (
  continues_given h t b hand Open,
  none_given h t b hand Open refl,
  (full_here h t m c b hand n).0,
  (full_here h t m c b hand n).1,
)

-- ---- hard tasks are tried again

none_hard : (s : TaskState) → is_hard (reopened HardOnes s) ≡ false
none_hard Open = refl
none_hard Taken = refl
none_hard Hard = refl
none_hard Closed = refl
none_hard Never = refl

taken_reopened : (s : TaskState) → is_taken (reopened HardOnes s) ≡ is_taken s
taken_reopened Open = refl
taken_reopened Taken = refl
taken_reopened Hard = refl
taken_reopened Closed = refl
taken_reopened Never = refl

opened_here : (p : Presented) (h : Held) (leads : List Term) → IsBook h → h.source ≡ p → NoneTaken h → AreLeads (vectors_of h.entries) leads
    → LeadsOn p h true (record h { tasks = reopen HardOnes h.tasks }) leads false
opened_here p h leads b source free are = (
  record {
    source = refl;
    limits = refl;
    base = refl;
    more = [];
    entries = sym (append-nil h.entries);
    closed = λ t k c. ap is_unclosed (state_reopened HardOnes h.tasks.states (number_of t)) ∙ (unclosed_reopened HardOnes (state_of h.tasks t) ∙ c);
    commits = omega arith;
  },
  refl,
  record {
    source = source;
    none_taken = λ t k. ap is_taken (state_reopened HardOnes h.tasks.states (number_of t)) ∙ (taken_reopened (state_of h.tasks t) ∙ free t k);
    are_leads = are;
    hard = λ s t k is. absurd (not_both (is_hard (reopened HardOnes (state_of h.tasks t)))
        (sym (ap is_hard (state_reopened HardOnes h.tasks.states (number_of t))) ∙ is) (none_hard (state_of h.tasks t)));
  },
  left_opened h (record h { tasks = reopen HardOnes h.tasks }) (book_reopened h HardOnes b) refl,
)

pub opened_again : (p : Presented) (h new : Held) (leads : List Term) → IsBook h → h.source ≡ p → NoneTaken h → AreLeads (vectors_of h.entries) leads
    → new ≡ record h { tasks = reopen HardOnes h.tasks } → LeadsOn p h true new leads false
opened_again p h new leads b source free are is = subst (λ (z : Held). LeadsOn p h true z leads false) (sym is) (opened_here p h leads b source free are)
