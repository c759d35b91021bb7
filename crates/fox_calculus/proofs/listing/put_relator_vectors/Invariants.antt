use Rattle.std.proofs.Common.{map, take}
use Rattle.fox_calculus.specs.Fox.{fox}
use Rattle.fox_calculus.proofs.GrowingLists.{Puts}
use Rattle.fox_calculus.proofs.listing.put_relator_vectors.Given as goal

abbrev pub invariant-loop-r : goal.invariant-loop-r
invariant-loop-r l = Puts l.initial.made.items (map fox (take l.r-index l.r-items)) l.made.items
