-- The task in hand is given back.
use Rattle.std.proofs.Common.{◌<◌, ◌≡◌, ◌≢◌, ◌⊎◌, inl, inr, arith, refl, sym, ap, ◌∙◌, List, [], length, Bool, true, false, subst}
use Rattle.std.proofs.lemmas.List.{append-nil}
use Rattle.presentation.specs.Presented.{Presented}
use Rattle.outcomes.specs.declared.tasks.Task.{Task}
use Rattle.module_vec.specs.declared.faults.Stop.{Stop}
use Rattle.module_vec.specs.declared.places.Term.{Term}
use Rattle.task_table.specs.declared.states.TaskState.{TaskState}
use Rattle.task_table.specs.declared.states.TaskState.TheVariants.{Open, Hard}
use Rattle.task_table.specs.Tasks.{IsTask, is_taken, is_hard, is_unclosed}
use Rattle.task_table.specs.Tables.{state_of, put}
use Rattle.pair_book.specs.Books.{Held, IsBook, GivesBack, with_state}
use Rattle.pair_book.proofs.Keeping.{task_in, taken_unclosed}
use Rattle.completion_solo.specs.Ends.{StopsAt}
use Rattle.completion_solo.specs.Finishing.{Continues, NoneTaken, LacksMemory}
use Rattle.completion_solo.specs.Rounds.{HardOnesStop, IsInHand, IsWorkDue, LeadsOn, weigh}
use Rattle.completion_solo.proofs.Numbers.{read_put, not_both}
use Rattle.completion_solo.proofs.Weighing.{taken_weight, weigh_put, left_lower}

module _ (mid : Held) (t : Task) (b : IsBook mid) (hand : IsInHand mid t) where
  read : (s : TaskState) (u : Task) → IsTask (length mid.entries) u → ((u ≡ t) × (state_of (put mid.tasks t s) u ≡ s))
      ⊎ ((u ≢ t) × (state_of (put mid.tasks t s) u ≡ state_of mid.tasks u))
  read s u k = read_put mid.tasks t u s b.table (task_in mid t b hand.taken.0) (task_in mid u b k)

  pub continues_given : (s : TaskState) → Continues mid (with_state mid t s)
  continues_given s = record {
    source = refl;
    limits = refl;
    base = refl;
    more = [];
    entries = sym (append-nil mid.entries);
    closed = λ u k c. elim (read s u k) [
      | inl (e, x) ↦ absurd (not_both (is_unclosed (state_of mid.tasks u)) (ap (λ (z : Task). is_unclosed (state_of mid.tasks z)) e
          ∙ taken_unclosed (state_of mid.tasks t) hand.taken.1) c)
      | inr (ne, x) ↦ ap is_unclosed x ∙ c
    ];
    commits = omega arith;
  }

  pub none_given : (s : TaskState) → is_taken s ≡ false → NoneTaken (with_state mid t s)
  none_given s n u k = elim (read s u k) [ inl (e, x) ↦ ap is_taken x ∙ n | inr (ne, x) ↦ ap is_taken x ∙ hand.others u k ne ]

  hard_given : (stop : Stop) → StopsAt mid.entries t stop → HardOnesStop mid → HardOnesStop (with_state mid t Hard)
  hard_given stop here all u k is = elim (read Hard u k) [
    | inl (e, x) ↦ (stop, subst (λ (z : Task). StopsAt mid.entries z stop) (sym e) here)
    | inr (ne, x) ↦ all u k (sym (ap is_hard x) ∙ is)
  ]

  lower_given : weigh (with_state mid t Hard) < weigh mid
  lower_given =
      let w = weigh_put mid.tasks t Hard b.table (task_in mid t b hand.taken.0) in
      let o = taken_weight (state_of mid.tasks t) hand.taken.1 in
      omega (arith, w, o)

  pub given_hard : (p : Presented) (new : Held) (leads : List Term) (stop : Stop) (stale : Bool) → mid.source ≡ p → IsWorkDue mid leads t stale
      → StopsAt mid.entries t stop → GivesBack mid t true new → LeadsOn p mid stale new leads stale
  given_hard p new leads stop stale source due here gives = subst (λ (z : Held). LeadsOn p mid stale z leads stale) (sym (gives.taken hand.taken)) (
    continues_given Hard,
    refl,
    record { source = source; none_taken = none_given Hard refl; are_leads = due.are_leads; hard = λ s. hard_given stop here (due.hard s) },
    left_lower mid (with_state mid t Hard) stale refl lower_given,
  )

  pub given_open : (new : Held) → GivesBack mid t false new → LacksMemory mid new
  given_open new gives = subst (λ (z : Held). LacksMemory mid z) (sym (gives.taken hand.taken)) (continues_given Open, none_given Open refl, refl)
