use Rattle.std.proofs.Common.{map}
use Rattle.std.specs.Prelude.{None}
use Rattle.std.specs.List.{range_with_len}
use Rattle.fox_calculus.specs.Generators.{binomial, unit_monomial}
use Rattle.flat_making.specs.Kinds.{Names}
use Rattle.flat_making.proofs.kinds.put_units.Given as goal

abbrev pub invariant-loop-c : goal.invariant-loop-c
invariant-loop-c l = Names l.initial.made.items (map (binomial (unit_monomial l.g)) (range_with_len 0 l.c))
    (map (λ c. None) (range_with_len 0 l.c)) l.made.items
