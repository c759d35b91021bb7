use Rattle.std.proofs.Common.{◌≡◌, take}
use Rattle.module_vec.proofs.FallingTerms.{Above}
use Rattle.module_vec.proofs.differences.meet.Given as goal

abbrev pub invariant-loop-u : goal.invariant-loop-u
invariant-loop-u l = record {
  count : l.above ≡ l.u-index;
  front : Above l.at (take l.u-index l.v);
}
