use Rattle.std.proofs.Common.{◌≡◌, ◌≤◌, drop}
use Rattle.task_table.specs.Profiles.{most_from}
use Rattle.task_table.proofs.profiles.digits_of.Given as goal

abbrev pub invariant-loop-term : goal.invariant-loop-term
invariant-loop-term l = record {
  rest : most_from l.most (drop l.term-index l.terms) ≡ most_from 0 l.terms;
  few : l.most ≤ 128;
}
