use Rattle.std.proofs.Common.{◌≡◌, ◌<◌, ◌≤◌, ◌+◌, length}
use Rattle.task_table.specs.Tasks.{number_of}
use Rattle.task_table.specs.Queueing.{AreQueuedBelow}
use Rattle.task_table.proofs.by_cost.queue_from.Given as goal

abbrev pub invariant-loop-at : goal.invariant-loop-at
invariant-loop-at l = record {
  number : number_of l.task ≡ l.at;
  pair : l.task.i < l.task.j;
  profiles : l.costs.profiles ≡ l.initial.costs.profiles;
  vectors : l.costs.room ≡ l.initial.costs.room;
  room : l.initial.costs.queue.room ≤ l.costs.queue.room;
  count : length l.costs.queue.numbers + number_of l.fn.from ≤ length l.initial.costs.queue.numbers + l.at;
  queued : AreQueuedBelow l.at l.initial.costs.profiles l.states l.costs.queue.numbers;
}
