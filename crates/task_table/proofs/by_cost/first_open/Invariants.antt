use Rattle.std.proofs.Common.{◌≡◌, length}
use Rattle.task_table.specs.Keys.{AreQueued}
use Rattle.task_table.proofs.by_cost.first_open.Given as goal

abbrev pub invariant-loop-task : goal.invariant-loop-task
invariant-loop-task l = record {
  profiles : l.costs.profiles ≡ l.initial.costs.profiles;
  vectors : l.costs.room ≡ l.initial.costs.room;
  room : l.costs.queue.room ≡ l.initial.costs.queue.room;
  queued : AreQueued l.initial.costs.profiles l.states l.costs.queue.numbers;
}

abbrev pub decreases-loop-task : goal.decreases-loop-task
decreases-loop-task l = length l.costs.queue.numbers
