use Rattle.std.proofs.Common.{map}
use Rattle.std.specs.List.{flat_map, range_with_len}
use Rattle.fox_calculus.specs.Generators.{binomial, unit_monomial, components}
use Rattle.fox_calculus.proofs.GrowingLists.{Puts}
use Rattle.fox_calculus.proofs.listing.put_unit_binomials.Given as goal

abbrev pub invariant-loop-g : goal.invariant-loop-g
invariant-loop-g l = Puts l.initial.made.items (flat_map (λ g. map (binomial (unit_monomial g)) (components l.p)) (range_with_len 0 l.g)) l.made.items
