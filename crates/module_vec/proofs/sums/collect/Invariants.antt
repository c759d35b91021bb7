use Rattle.std.proofs.Common.{length}
use Rattle.module_vec.proofs.Collecting.{Joining}
use Rattle.module_vec.proofs.sums.collect.Given as goal

abbrev pub invariant-loop-first : goal.invariant-loop-first
invariant-loop-first l = Joining l.sorted l.made.items l.rest

abbrev pub decreases-loop-first : goal.decreases-loop-first
decreases-loop-first l = length l.rest
