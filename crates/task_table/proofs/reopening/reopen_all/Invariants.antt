use Rattle.std.proofs.Common.{◌≡◌, ◌≤◌, map, take, drop, ◌++◌, count_by}
use Rattle.task_table.specs.Tasks.{reopened, is_reopened}
use Rattle.task_table.proofs.reopening.reopen_all.Given as goal

abbrev pub invariant-loop-state : goal.invariant-loop-state
invariant-loop-state l = record {
  states_so_far : l.states ≡ map (reopened l.from) (take l.state-index l.initial.states) ++ drop l.state-index l.initial.states;
  count_so_far : l.count ≡ count_by (is_reopened l.from) (take l.state-index l.initial.states);
  within : l.count ≤ l.state-index;
}
