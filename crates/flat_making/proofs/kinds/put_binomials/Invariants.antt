use Rattle.std.proofs.Common.{map}
use Rattle.std.specs.Prelude.{Some}
use Rattle.std.specs.List.{range_with_len}
use Rattle.fox_calculus.specs.Generators.{binomial}
use Rattle.flat_cert.specs.declared.lines.FlatKind.TheVariants.{Bin}
use Rattle.flat_making.specs.Kinds.{Names}
use Rattle.flat_making.proofs.kinds.put_binomials.Given as goal

abbrev pub invariant-loop-c : goal.invariant-loop-c
invariant-loop-c l = Names l.initial.made.items (map (binomial l.m) (range_with_len 0 l.c))
    (map (λ c. Some (Bin l.relator c)) (range_with_len 0 l.c)) l.made.items
