use Rattle.std.proofs.Common.{take}
use Rattle.flat_cert.specs.Adding.{AreRelators}
use Rattle.flat_cert.proofs.relators.relator_vectors.Given as goal

abbrev pub invariant-loop-r : goal.invariant-loop-r
invariant-loop-r l = AreRelators (take l.r-index l.r-items) l.made.items
