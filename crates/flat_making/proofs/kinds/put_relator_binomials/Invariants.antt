use Rattle.std.proofs.Common.{◌≡◌, map, take}
use Rattle.std.specs.Prelude.{Some}
use Rattle.std.specs.List.{range_with_len, flat_map}
use Rattle.fox_calculus.specs.Fox.{image}
use Rattle.fox_calculus.specs.Generators.{binomial, components}
use Rattle.flat_cert.specs.declared.lines.FlatKind.TheVariants.{Bin}
use Rattle.flat_making.specs.Kinds.{Names}
use Rattle.flat_making.proofs.kinds.put_relator_binomials.Given as goal

abbrev pub invariant-loop-r : goal.invariant-loop-r
invariant-loop-r l = record {
  count : l.relator ≡ l.r-index;
  names : Names l.initial.made.items (flat_map (λ r. map (binomial (image r)) (components l.p)) (take l.r-index l.r-items))
      (flat_map (λ j. map (λ c. Some (Bin j c)) (components l.p)) (range_with_len 1 l.r-index)) l.made.items;
}
