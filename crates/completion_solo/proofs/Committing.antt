-- An outcome of the task in hand is committed.
use Rattle.std.proofs.Common.{ℕ, ◌+◌, ◌<◌, ◌≤◌, ◌≡◌, ◌≢◌, ◌⊎◌, inl, inr, arith, refl, sym, ap, ◌∙◌, List, [], ◌∷◌, ◌++◌, length, map, Bool, true, false, subst}
use Rattle.std.proofs.Common.{length-append}
use Rattle.std.proofs.lemmas.List.{append-nil, map-append}
use Rattle.std.specs.Prelude.{Ok, ◌↔◌, IsTrue}
use Rattle.presentation.specs.Presented.{Presented}
use Rattle.outcomes.specs.declared.tasks.Task.{Task}
use Rattle.module_vec.specs.declared.places.Term.{Term}
use Rattle.strong_pairs.specs.Pairs.{lead_of, lead_at}
use Rattle.strong_pairs.specs.Tasks.{IsClosed}
use Rattle.task_table.specs.declared.states.TaskState.{TaskState}
use Rattle.task_table.specs.declared.states.TaskState.TheVariants.{Open, Taken, Hard, Closed, Never}
use Rattle.task_table.specs.Tasks.{IsTask, is_taken, is_hard, is_unclosed, is_closed_later}
use Rattle.task_table.specs.Tables.{Table, IsTable, state_of, put}
use Rattle.task_table.specs.Rows.{grown, first_state, settled_of}
use Rattle.reducer_index.specs.Leads.{AreLeads}
use Rattle.basis_entry.specs.Entries.{BasisEntry, vectors_of}
use Rattle.pair_work.specs.declared.outcome.Close.{Close}
use Rattle.pair_work.specs.declared.outcome.Close.TheVariants.{Covered, Zero, Rest}
use Rattle.std.specs.Arc.{arc_value}
use Rattle.pair_book.specs.declared.faults.Committed.{Committed}
use Rattle.pair_book.specs.declared.faults.Committed.TheVariants as done
use Rattle.pair_book.specs.Books.{Held, IsBook}
use Rattle.pair_book.specs.Settled.{settled_row, settled_by}
use Rattle.pair_book.specs.Chaining.{AreChained, ClosesChained}
use Rattle.pair_book.specs.Commits.{Commits, Fits, OnRest, IfRest, IsFresh, closed_by, appended_by, state_after}
use Rattle.pair_book.specs.Logs.{NoneDivides}
use Rattle.pair_work.specs.Outcomes.{Worked}
use Rattle.pair_work.specs.Works.{ClosesAs}
use Rattle.pair_book.proofs.Growing.{vectors_push}
use Rattle.pair_book.proofs.Keeping.{task_in, task_out, taken_unclosed, table_put}
use Rattle.pair_book.proofs.Starting.{table_grown, state_old, state_new, older, lead_end}
use Rattle.completion_solo.specs.Ends.{StopsAt}
use Rattle.completion_solo.specs.Finishing.{Continues, NoneTaken, LacksMemory}
use Rattle.completion_solo.specs.Rounds.{HardOnesStop, IsInHand, IsWorkDue, LeadsOn, weight, weigh}
use Rattle.completion_solo.proofs.Numbers.{read_put, not_both, either}
use Rattle.completion_solo.proofs.Weighing.{taken_weight, weigh_put, lower, left_lower, left_longer}

-- ---- the chain rule

closed_state : (s : TaskState) → is_closed_later s ≡ true → s ≡ Closed
closed_state Open e = cc
closed_state Taken e = cc
closed_state Hard e = cc
closed_state Closed e = refl
closed_state Never e = cc

-- behind a commit each task is as it was, or closed
pub record Follows (m new : Held) : Type 0 where
  pub is : new ≡ record m { tasks = record m.tasks { states = new.tasks.states } }
  pub each : (u : Task) → IsTask (length m.entries) u → (state_of new.tasks u ≡ state_of m.tasks u) ⊎ (state_of new.tasks u ≡ Closed)

follows_chained : (m new : Held) (a b : ℕ) → AreChained (length m.entries) m a b new → Follows m new
follows_chained m new a b c = record {
  is = c.rest;
  each = λ u k. elim (either (is_closed_later (state_of new.tasks u))) [
    | inl y ↦ inr (closed_state (state_of new.tasks u) y)
    | inr n ↦ inl (c.same u k (λ due. not_both (is_closed_later (state_of new.tasks u)) (ap is_closed_later (c.closed u k due)) n))
  ];
}

follows_same : (m new : Held) → new ≡ m → Follows m new
follows_same m new e = subst (λ (z : Held). Follows m z) (sym e) (record { is = refl; each = λ u k. inl refl })

follows : (m new : Held) (t : Task) (closed : Bool) → ClosesChained m t closed new → Follows m new
follows m new t true (inl (s, c)) = follows_chained m new t.i t.j c
follows m new t true (inr (g, e)) = follows_same m new e
follows m new t false e = follows_same m new e

-- ---- commits

pub first_free : (s : Bool) → is_taken (first_state s) ≡ false
first_free true = refl
first_free false = refl

after_free : (closed : Bool) → is_taken (state_after closed) ≡ false
after_free true = refl
after_free false = refl

no_weight : (s : TaskState) → s ≡ Closed → weight s ≡ 0
no_weight s e = ap weight e

module _ (mid new : Held) (t : Task) (b : IsBook mid) (hand : IsInHand mid t) (now : IsBook new) where
  at_hand : IsTask mid.tasks.count t
  at_hand = task_in mid t b hand.taken.0

  was_unclosed : is_unclosed (state_of mid.tasks t) ≡ true
  was_unclosed = taken_unclosed (state_of mid.tasks t) hand.taken.1

  other : (u : Task) → is_unclosed (state_of mid.tasks u) ≡ false → u ≡ t → ⊥
  other u c e = not_both (is_unclosed (state_of mid.tasks u)) (ap (λ (z : Task). is_unclosed (state_of mid.tasks z)) e ∙ was_unclosed) c

  module _ (f : Follows (closed_by mid t) new) where
    entries_same : new.entries ≡ mid.entries
    entries_same = ap (λ (h : Held). h.entries) f.is

    task_back : (u : Task) → IsTask (length new.entries) u → IsTask (length mid.entries) u
    task_back u k = let n : length new.entries ≡ length mid.entries = ap length entries_same in let a = k.1 in (k.0, omega (arith, n, a))

    read_closed : (u : Task) → IsTask (length mid.entries) u → ((u ≡ t) × (state_of (put mid.tasks t Closed) u ≡ Closed))
        ⊎ ((u ≢ t) × (state_of (put mid.tasks t Closed) u ≡ state_of mid.tasks u))
    read_closed u k = read_put mid.tasks t u Closed b.table at_hand (task_in mid u b k)

    continues_closed : Continues mid new
    continues_closed = record {
      source = ap (λ (h : Held). h.source) f.is;
      limits = ap (λ (h : Held). h.limits) f.is;
      base = ap (λ (h : Held). h.base) f.is;
      more = [];
      entries = entries_same ∙ sym (append-nil mid.entries);
      closed = λ u k c. elim (f.each u k) [
        | inr e ↦ ap is_unclosed e
        | inl e ↦ ap is_unclosed e ∙ elim (read_closed u k) [ inl (_, s) ↦ ap is_unclosed s | inr (_, s) ↦ ap is_unclosed s ∙ c ]
      ];
      commits = let n : new.commits ≡ mid.commits + 1 = ap (λ (h : Held). h.commits) f.is in omega (arith, n);
    }

    none_closed : NoneTaken new
    none_closed u k = elim (f.each u (task_back u k)) [
      | inr e ↦ ap is_taken e
      | inl e ↦ ap is_taken e ∙ elim (read_closed u (task_back u k)) [
        | inl (_, s) ↦ ap is_taken s
        | inr (ne, s) ↦ ap is_taken s
            ∙ hand.others u (task_back u k) ne
      ]
    ]

    still_hard : (u : Task) → IsTask (length mid.entries) u → is_hard (state_of new.tasks u) ≡ true → is_hard (state_of mid.tasks u) ≡ true
    still_hard u k is = elim (f.each u k) [
      | inr e ↦ absurd (not_both (is_hard (state_of new.tasks u)) is (ap is_hard e))
      | inl e ↦ elim (read_closed u k) [
        | inl (_, s) ↦ absurd (not_both (is_hard (state_of new.tasks u)) is (ap is_hard e ∙ ap is_hard s))
        | inr (_, s) ↦ sym (ap is_hard s) ∙ (sym (ap is_hard e) ∙ is)
      ]
    ]

    hard_closed : HardOnesStop mid → HardOnesStop new
    hard_closed all u k is =
        let found = all u (task_back u k) (still_hard u (task_back u k) is) in
        (found.0, subst (λ (es : List BasisEntry). StopsAt es u found.0) (sym entries_same) found.1)

    lower_closed : weigh new < weigh mid
    lower_closed =
        let w = weigh_put mid.tasks t Closed b.table at_hand in
        let o = taken_weight (state_of mid.tasks t) hand.taken.1 in
        let count : new.tasks.count ≡ mid.tasks.count = ap (λ (h : Held). h.tasks.count) f.is in
        let l = lower (put mid.tasks t Closed) new.tasks (table_put mid.tasks t Closed b.table) now.table count
        (λ u k. elim (f.each u (task_out mid u b k)) [
          | inl e ↦ let s = ap weight e in omega (arith, s)
          | inr e ↦ let s = no_weight (state_of new.tasks u) e in omega (arith, s)
        ]) in
        omega (arith, w, o, l)

    pub closed_on : (leads : List Term) (stale : Bool) → IsWorkDue mid leads t stale → LeadsOn mid.source mid stale new leads stale
    closed_on leads stale due = (
      continues_closed,
      ap (λ (h : Held). h.seal) f.is,
      record {
        source = continues_closed.source;
        none_taken = none_closed;
        are_leads = subst (λ (es : List BasisEntry). AreLeads (vectors_of es) leads) (sym entries_same) due.are_leads;
        hard = λ s. hard_closed (due.hard s);
      },
      left_lower mid new stale entries_same lower_closed,
    )

  module _ (e : BasisEntry) (closed : Bool) (few : length mid.entries + 1 ≤ mid.limits.entries) (f : Follows (appended_by mid t e closed) new) where
    longer : new.entries ≡ mid.entries ++ e ∷ []
    longer = ap (λ (h : Held). h.entries) f.is

    abbrev row : Table
    row = grown mid.tasks (settled_row mid.entries e.vector) e.vector

    table_row : IsTable row
    table_row = let n = b.count in let r = b.room in table_grown mid.tasks mid.entries e.vector b.table b.count (omega (arith, n, r, few))

    task_more : (u : Task) → IsTask (length mid.entries) u → IsTask (length (mid.entries ++ e ∷ [])) u
    task_more u k = let n = length-append mid.entries (e ∷ []) in let a = k.1 in (k.0, omega (arith, n, a))

    in_row : (u : Task) → IsTask (length (mid.entries ++ e ∷ [])) u → IsTask row.count u
    in_row u k = let n = length-append mid.entries (e ∷ []) in let c = b.count in let a = k.1 in (k.0, omega (arith, n, a, c))

    hand_in_row : IsTask row.count t
    hand_in_row = in_row t (task_more t hand.taken.0)

    read_row : (u : Task) → IsTask (length (mid.entries ++ e ∷ [])) u → ((u ≡ t) × (state_of (put row t (state_after closed)) u ≡ state_after closed))
        ⊎ ((u ≢ t) × (state_of (put row t (state_after closed)) u ≡ state_of row u))
    read_row u k = read_put row t u (state_after closed) table_row hand_in_row (in_row u k)

    continues_longer : Continues mid new
    continues_longer = record {
      source = ap (λ (h : Held). h.source) f.is;
      limits = ap (λ (h : Held). h.limits) f.is;
      base = ap (λ (h : Held). h.base) f.is;
      more = e ∷ [];
      entries = longer;
      closed = λ u k c. elim (f.each u (task_more u k)) [
        | inr q ↦ ap is_unclosed q
        | inl q ↦ ap is_unclosed q ∙ elim (read_row u (task_more u k)) [
          | inl (same, _) ↦ absurd (other u c same)
          | inr (_, s) ↦ ap is_unclosed s ∙ (ap is_unclosed (state_old mid.tasks mid.entries e.vector u b.table (task_in mid u b k)) ∙ c)
        ]
      ];
      commits = let n : new.commits ≡ mid.commits + 1 = ap (λ (h : Held). h.commits) f.is in omega (arith, n);
    }

    row_free : (u : Task) → IsTask (length (mid.entries ++ e ∷ [])) u → u ≢ t → is_taken (state_of row u) ≡ false
    row_free u k ne = let n = length-append mid.entries (e ∷ []) in let a = k.1 in elim (older (length mid.entries) u (k.0, omega (arith, n, a))) [
      | inl o ↦ ap is_taken (state_old mid.tasks mid.entries e.vector u b.table (task_in mid u b o)) ∙ hand.others u o ne
      | inr (j, i) ↦ ap is_taken (state_new mid.tasks mid.entries e.vector u b.table b.count j i)
          ∙ first_free (settled_of u.kind (settled_by (lead_at (vectors_of mid.entries) u.i) (lead_of e.vector)))
    ]

    none_longer : NoneTaken new
    none_longer u k =
        let n : length new.entries ≡ length (mid.entries ++ e ∷ []) = ap length longer in
        let a = k.1 in
        let m : IsTask (length (mid.entries ++ e ∷ [])) u = (k.0, omega (arith, n, a)) in
        elim (f.each u m) [
          | inr q ↦ ap is_taken q
          | inl q ↦ ap is_taken q ∙ elim (read_row u m) [ inl (_, s) ↦ ap is_taken s ∙ after_free closed | inr (ne, s) ↦ ap is_taken s ∙ row_free u m ne ]
        ]

    pub broken_longer : LacksMemory mid new
    broken_longer = (continues_longer, none_longer, ap (λ (h : Held). h.seal) f.is)

    leads_longer : (leads more : List Term) (lead : Term) (k : ℕ) → AreLeads (vectors_of mid.entries) leads → k ≡ length mid.entries
        → lead ≡ lead_at (vectors_of new.entries) k → more ≡ leads ++ lead ∷ [] → AreLeads (vectors_of new.entries) more
    leads_longer leads more lead k are number is all =
        let last : lead ≡ lead_of e.vector = is ∙ ((λ x. lead_at (vectors_of (longer x)) (number x)) ∙ lead_end mid.entries e) in
        all
        ∙ ((λ x. are x ++ last x ∷ [])
        ∙ (sym (map-append lead_of (vectors_of mid.entries) (e.vector ∷ []))
        ∙ (ap (map lead_of) (sym (vectors_push mid.entries e)) ∙ ap (λ (es : List BasisEntry). map lead_of (vectors_of es)) (sym longer))))

    pub longer_on : (leads more : List Term) (lead : Term) (k : ℕ) (stale : Bool) → IsWorkDue mid leads t stale → k ≡ length mid.entries
        → lead ≡ lead_at (vectors_of new.entries) k → more ≡ leads ++ lead ∷ [] → LeadsOn mid.source mid stale new more true
    longer_on leads more lead k stale due number is all =
        let n : length new.entries ≡ length (mid.entries ++ e ∷ []) = ap length longer in
        let l = length-append mid.entries (e ∷ []) in (
          continues_longer,
          ap (λ (h : Held). h.seal) f.is,
          record {
            source = continues_longer.source;
            none_taken = none_longer;
            are_leads = leads_longer leads more lead k due.are_leads number is all;
            hard = λ q. absurd (cc);
          },
          left_longer mid new stale now (omega (arith, n, l)),
        )

-- ---- what a commit answers

-- the rest that work leaves is of the presentation
pub rest_known : (p : Presented) (b : List (List Term)) (t : Task) (close : Close) → ClosesAs p b t close → IfRest close (λ e. e.source ≡ p)
rest_known p b t (Covered by) c = tt
rest_known p b t (Zero steps) c = tt
rest_known p b t (Rest e) c = c.entry.source

is_closed : (mid new : Held) (w : Worked) → Commits mid w (Ok done.Closed) new → Follows (closed_by mid w.task) new
is_closed mid new w (_, _, chained) = follows (closed_by mid w.task) new w.task true chained

pub closed_round : (mid new : Held) (w : Worked) (f : Committed) (leads : List Term) (stale : Bool) → IsBook mid → IsBook new → IsWorkDue mid leads w.task stale
    → f ≡ done.Closed → Commits mid w (Ok f) new → LeadsOn mid.source mid stale new leads stale
closed_round mid new w f leads stale b now due g c =
    let d = subst (λ (x : Committed). Commits mid w (Ok x) new) g c in
    closed_on mid new w.task b due.hand now (is_closed mid new w d) leads stale due

pub record Appends (mid new : Held) (w : Worked) (k : ℕ) (closed : Bool) : Type 0 where
  pub number : k ≡ length mid.entries
  pub entry : BasisEntry
  pub few : length mid.entries + 1 ≤ mid.limits.entries
  pub follows : Follows (appended_by mid w.task entry closed) new

fits_behind : (mid new : Held) (w : Worked) (k : ℕ) (closed : Bool) (close : Close) → k ≡ length mid.entries
    → IfRest close (λ e. IsFresh mid w e × NoneDivides (vectors_of mid.entries) (lead_of e.vector) × Fits mid e) →
    OnRest close (λ e. (IsTrue closed ↔ IsClosed (vectors_of (mid.entries ++ e ∷ [])) w.task.kind w.task.i w.task.j)
    × ClosesChained (appended_by mid w.task e closed) w.task closed new) → Appends mid new w k closed
fits_behind mid new w k closed (Covered by) n fits on = absurd on
fits_behind mid new w k closed (Zero steps) n fits on = absurd on
fits_behind mid new w k closed (Rest e) n (_, _, (few, _, _)) (_, chained) = record {
  number = n;
  entry = arc_value e;
  few = few;
  follows = follows (appended_by mid w.task (arc_value e) closed) new w.task closed chained;
}

is_appended : (mid new : Held) (w : Worked) (k : ℕ) (closed : Bool) → Commits mid w (Ok (done.Appended k closed)) new → Appends mid new w k closed
is_appended mid new w k closed ((_, _, fits), n, on) = fits_behind mid new w k closed w.close n fits on

module _ (mid new : Held) (w : Worked) (f : Committed) (k : ℕ) (closed : Bool) (leads : List Term) (stale : Bool) (b : IsBook mid) (now : IsBook new)
    (due : IsWorkDue mid leads w.task stale) (g : f ≡ done.Appended k closed) (c : Commits mid w (Ok f) new) where
  appends : Appends mid new w k closed
  appends = is_appended mid new w k closed (subst (λ (x : Committed). Commits mid w (Ok x) new) g c)

  pub broken_round : LacksMemory mid new
  broken_round = broken_longer mid new w.task b due.hand now appends.entry closed appends.few appends.follows

  pub appended_round : (more : List Term) (lead : Term) → lead ≡ lead_at (vectors_of new.entries) k → more ≡ leads ++ lead ∷ []
      → LeadsOn mid.source mid stale new more true
  appended_round more lead is all = longer_on mid new w.task b due.hand now appends.entry closed appends.few appends.follows leads more lead k stale due
      appends.number is all
