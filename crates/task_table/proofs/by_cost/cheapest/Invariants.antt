use Rattle.std.proofs.Common.{◌≡◌, ◌<◌}
use Rattle.task_table.specs.Tasks.{number_of}
use Rattle.task_table.specs.Queueing.{FindsCheapestBelow}
use Rattle.task_table.proofs.by_cost.cheapest.Given as goal

abbrev pub invariant-loop-at : goal.invariant-loop-at
invariant-loop-at l = record {
  number : number_of l.task ≡ l.at;
  pair : l.task.i < l.task.j;
  best : FindsCheapestBelow l.at l.wanted l.costs.profiles l.states l.best;
}
