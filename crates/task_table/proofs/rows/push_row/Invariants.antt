use Rattle.std.proofs.Common.{◌≡◌, ◌+◌, drop, ◌++◌, vec_len, vec_capacity}
use Rattle.task_table.specs.Rows.{row_states}
use Rattle.task_table.proofs.rows.push_row.Given as goal

abbrev pub invariant-loop-i : goal.invariant-loop-i
invariant-loop-i g l = record {
  items_so_far : l.states.items ++ row_states (drop l.i (g.R.Row.settled l.row)) ≡ l.initial.states.items ++ row_states (g.R.Row.settled l.row);
  length_so_far : vec_len l.states ≡ vec_len l.initial.states + (l.i + l.i);
  room : vec_capacity l.states ≡ vec_capacity l.initial.states;
}
