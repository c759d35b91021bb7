use Rattle.std.proofs.Common.{◌+◌, ◌≤◌, drop, length}
use Rattle.module_vec.proofs.Merging.{Merging}
use Rattle.module_vec.proofs.differences.difference.Given as goal

abbrev pub invariant-loop-term : goal.invariant-loop-term
invariant-loop-term l = record {
  state : Merging l.v l.q l.t l.g l.made.items l.rest (drop l.term-index l.g);
  count : length l.made.items + length l.rest ≤ length l.v + l.term-index;
}
