use Rattle.std.proofs.Common.{map}
use Rattle.std.specs.Prelude.{Some}
use Rattle.std.specs.List.{range_with_len}
use Rattle.fox_calculus.specs.Generators.{constant}
use Rattle.flat_cert.specs.declared.lines.FlatKind.TheVariants.{Mod}
use Rattle.flat_making.specs.Kinds.{Names}
use Rattle.flat_making.proofs.kinds.put_constants.Given as goal

abbrev pub invariant-loop-c : goal.invariant-loop-c
invariant-loop-c l = Names l.initial.made.items (map (constant l.n) (range_with_len 0 l.c)) (map (λ c. Some (Mod c)) (range_with_len 0 l.c)) l.made.items
