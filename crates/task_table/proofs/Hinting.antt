-- Hints stay hints.
use Rattle.std.proofs.Common.{ℕ, ◌<◌, ◌≤◌, ◌≡◌, ◌≢◌, ◌⊎◌, inl, inr, arith, refl, sym, ap, ◌∙◌, List, ◌++◌, length, map, false, slice_set, get_or, length-append}
use Rattle.std.proofs.lemmas.List.{get_or-set_same, get_or-set_other, length-set, length-map, get_or_append_left}
use Rattle.std.proofs.Math.ListN.{get_or-map}
use Rattle.task_table.specs.declared.hints.Hint.{Hint}
use Rattle.task_table.specs.declared.states.TaskState.{TaskState}
use Rattle.task_table.specs.declared.states.TaskState.TheVariants.{Open, Taken, Hard, Closed, Never}
use Rattle.task_table.specs.declared.states.Wanted.{Wanted}
use Rattle.task_table.specs.declared.states.Wanted.TheVariants.{OpenOnes, Unclosed}
use Rattle.task_table.specs.declared.states.Reopened.{Reopened}
use Rattle.task_table.specs.declared.states.Reopened.TheVariants.{HardOnes, TakenOnes}
use Rattle.task_table.specs.Tasks.{tasks_below, is_wanted, is_open, is_unclosed, reopened}
use Rattle.task_table.specs.Tables.{state_at}
use Rattle.task_table.specs.Inner.{IsHint}
use Rattle.task_table.proofs.Counting.{tasks_below_none}
use Rattle.task_table.proofs.Ordering.{three}

-- after a write that makes nothing wanted before the hint
pub hint_put : (wanted : Wanted) (states : List TaskState) (hint : Hint) (at : ℕ) (s : TaskState) → IsHint wanted states hint
    → (is_wanted wanted s ≡ false) ⊎ (hint.number ≤ at) → at < length states → IsHint wanted (slice_set states at s) hint
hint_put wanted states hint at s h o w = record {
  within = let l = length-set states at s in let v = h.within in omega (arith, l, v);
  begins = h.begins;
  before = λ k lt. elim (three k at) [
    | inl p ↦ let ne : k ≢ at = omega (arith, p) in ap (is_wanted wanted) (get_or-set_other states at k s Never ne) ∙ h.before k lt
    | inr q ↦ elim q [
      | inr p ↦ let ne : k ≢ at = omega (arith, p) in ap (is_wanted wanted) (get_or-set_other states at k s Never ne) ∙ h.before k lt
      | inl e ↦ elim o [
        | inl c ↦ ap (λ x. is_wanted wanted (state_at (slice_set states at s) x)) e ∙ (ap (is_wanted wanted) (get_or-set_same states at s Never w) ∙ c)
        | inr m ↦ absurd (omega (arith, e, m, lt))
      ]
    ]
  ];
}

-- the hint goes back to the task that was written
pub hint_back : (wanted : Wanted) (states : List TaskState) (hint : Hint) (at row : ℕ) (s : TaskState) → IsHint wanted states hint → at < hint.number
    → tasks_below row ≤ at → IsHint wanted (slice_set states at s) (record { number = at; row = row })
hint_back wanted states hint at row s h b r = record {
  within = let l = length-set states at s in let v = h.within in omega (arith, l, v, b);
  begins = r;
  before = λ k lt. let ne : k ≢ at = omega (arith, lt) in ap (is_wanted wanted) (get_or-set_other states at k s Never ne) ∙ h.before k (omega (arith, lt, b));
}

-- where states are appended
pub hint_append : (wanted : Wanted) (states row : List TaskState) (hint : Hint) → IsHint wanted states hint → IsHint wanted (states ++ row) hint
hint_append wanted states row hint h = record {
  within = let l = length-append states row in let w = h.within in omega (arith, l, w);
  begins = h.begins;
  before = λ k lt. let w = h.within in ap (is_wanted wanted) (get_or_append_left states row Never k (omega (arith, w, lt))) ∙ h.before k lt;
}

pub unclosed_reopened : (from : Reopened) (s : TaskState) → is_unclosed (reopened from s) ≡ is_unclosed s
unclosed_reopened HardOnes Open = refl
unclosed_reopened HardOnes Taken = refl
unclosed_reopened HardOnes Hard = refl
unclosed_reopened HardOnes Closed = refl
unclosed_reopened HardOnes Never = refl
unclosed_reopened TakenOnes Open = refl
unclosed_reopened TakenOnes Taken = refl
unclosed_reopened TakenOnes Hard = refl
unclosed_reopened TakenOnes Closed = refl
unclosed_reopened TakenOnes Never = refl

pub never_reopened : (from : Reopened) → reopened from Never ≡ Never
never_reopened HardOnes = refl
never_reopened TakenOnes = refl

pub state_reopened : (from : Reopened) (states : List TaskState) (k : ℕ) → state_at (map (reopened from) states) k ≡ reopened from (state_at states k)
state_reopened from states k =
    ap (λ d. get_or (map (reopened from) states) k d) (sym (never_reopened from)) ∙ get_or-map (reopened from) states k Never

closed_not_open : (s : TaskState) → is_unclosed s ≡ false → is_open s ≡ false
closed_not_open Open e = cc
closed_not_open Taken e = refl
closed_not_open Hard e = refl
closed_not_open Closed e = refl
closed_not_open Never e = refl

-- after a reopening all open tasks stand behind the first that isn't closed
pub hint_reopened : (from : Reopened) (states : List TaskState) (hint : Hint) → IsHint Unclosed states hint
    → IsHint Unclosed (map (reopened from) states) hint × IsHint OpenOnes (map (reopened from) states) hint
hint_reopened from states hint h =
    let within : hint.number ≤ length (map (reopened from) states) = let l = length-map states (reopened from) in let v = h.within in omega (arith, l, v) in
    let before : (k : ℕ) → k < hint.number → is_unclosed (state_at (map (reopened from) states) k) ≡ false =
    λ k lt. ap is_unclosed (state_reopened from states k) ∙ (unclosed_reopened from (state_at states k) ∙ h.before k lt) in (
      record { within = within; begins = h.begins; before = before },
      record {
        within = within;
        begins = h.begins;
        before = λ k lt. closed_not_open (state_at (map (reopened from) states) k) (before k lt);
      },
    )

pub hint_start : (wanted : Wanted) (states : List TaskState) → IsHint wanted states (record { number = 0; row = 0 })
hint_start wanted states = record { within = omega arith; begins = omega (arith, tasks_below_none 0 refl); before = λ k lt. absurd (omega (arith, lt)) }
