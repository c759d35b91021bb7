use Rattle.std.proofs.Common.{map, take}
use Rattle.std.specs.List.{flat_map}
use Rattle.fox_calculus.specs.Fox.{image}
use Rattle.fox_calculus.specs.Generators.{binomial, components}
use Rattle.fox_calculus.proofs.GrowingLists.{Puts}
use Rattle.fox_calculus.proofs.listing.put_relator_binomials.Given as goal

abbrev pub invariant-loop-r : goal.invariant-loop-r
invariant-loop-r l = Puts l.initial.made.items (flat_map (λ r. map (binomial (image r)) (components l.p)) (take l.r-index l.r-items)) l.made.items
