use Rattle.std.proofs.Common.{length, ◌-◌, ◌≡◌, ◌<◌, ◌≤◌, ℕ, false}
use Rattle.task_table.specs.Tasks.{is_wanted}
use Rattle.task_table.specs.Tables.{state_at}
use Rattle.task_table.proofs.hints.first.Given as goal

abbrev pub invariant-loop-at : goal.invariant-loop-at
invariant-loop-at l = (l.fn.hint.number ≤ l.at) × (l.at ≤ length l.states) × ((k : ℕ) → k < l.at → is_wanted l.wanted (state_at l.states k) ≡ false)

abbrev pub decreases-loop-at : goal.decreases-loop-at
decreases-loop-at l = length l.states - l.at
