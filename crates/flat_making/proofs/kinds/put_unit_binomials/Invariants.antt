use Rattle.std.proofs.Common.{map}
use Rattle.std.specs.Prelude.{None}
use Rattle.std.specs.List.{range_with_len, flat_map}
use Rattle.fox_calculus.specs.Generators.{binomial, unit_monomial, components}
use Rattle.flat_making.specs.Kinds.{Names}
use Rattle.flat_making.proofs.kinds.put_unit_binomials.Given as goal

abbrev pub invariant-loop-g : goal.invariant-loop-g
invariant-loop-g l = Names l.initial.made.items (flat_map (λ g. map (binomial (unit_monomial g)) (components l.p)) (range_with_len 0 l.g))
    (flat_map (λ g. map (λ c. None) (components l.p)) (range_with_len 0 l.g)) l.made.items
