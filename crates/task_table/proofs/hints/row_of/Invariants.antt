use Rattle.std.proofs.Common.{◌-◌, ◌<◌, ◌≤◌}
use Rattle.task_table.specs.Tasks.{tasks_below}
use Rattle.task_table.proofs.hints.row_of.Given as goal

abbrev pub invariant-loop-j : goal.invariant-loop-j
invariant-loop-j l = (tasks_below l.j ≤ l.at) × (l.j < l.count)

abbrev pub decreases-loop-j : goal.decreases-loop-j
decreases-loop-j l = l.count - l.j
