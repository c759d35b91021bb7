use Rattle.std.proofs.Common.{◌≡◌, map, take}
use Rattle.std.specs.Prelude.{Some}
use Rattle.std.specs.List.{range_with_len}
use Rattle.fox_calculus.specs.Fox.{fox}
use Rattle.flat_cert.specs.declared.lines.FlatKind.TheVariants.{Rel}
use Rattle.flat_making.specs.Kinds.{Names}
use Rattle.flat_making.proofs.kinds.put_relators.Given as goal

abbrev pub invariant-loop-r : goal.invariant-loop-r
invariant-loop-r l = record {
  count : l.relator ≡ l.r-index;
  names : Names l.initial.made.items (map fox (take l.r-index l.r-items)) (map (λ j. Some (Rel j)) (range_with_len 1 l.r-index)) l.made.items;
}
