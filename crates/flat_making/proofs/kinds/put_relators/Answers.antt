use Rattle.std.proofs.Common.{◌∙◌, ◌+◌, ◌==◌, ap, length, arith}
use Rattle.std.specs.Prelude.{Some}
use Rattle.fox_calculus.specs.Fox.{fox}
use Rattle.flat_cert.specs.declared.lines.FlatKind.TheVariants.{Rel}
use Rattle.flat_making.proofs.Naming.{names_relator, empty_is_zero}
use Rattle.flat_making.proofs.kinds.put_relators.Goals as goal

pub loop-r-preserved : goal.loop-r-preserved
loop-r-preserved c = record {
  count = omega (arith, c.loop-r.invariant.count);
  names = names_relator fox (λ j. Some (Rel j)) c.relators-r-items.result.now c.loop-r.r-index c.r-item.result _ (c.loop-r.relator + 1)
      c.args.made.now.items c.loop-r.made.items c.put.new.made.items c.loop-r-test.true c.r-item.is (omega (arith, c.loop-r.invariant.count))
      c.loop-r.invariant.names
      (c.in_ok-put.ensures (fox c.r-item.result) (empty_is_zero (fox c.r-item.result) c.in_ok-fox.field-0 c.is_empty-is_zero.result c.in_ok-fox.ensures.is
      (c.is_empty-is_zero.ensures ∙ ap (λ v. length v == 0) c.terms-in-loop-r.ensures.is)));
}
