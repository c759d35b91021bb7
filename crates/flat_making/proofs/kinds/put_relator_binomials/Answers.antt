use Rattle.std.proofs.Common.{◌+◌, map, List, arith}
use Rattle.std.specs.Prelude.{Some}
use Rattle.free_words.specs.declared.letter.Letter.{Letter}
use Rattle.fox_calculus.specs.Fox.{image}
use Rattle.fox_calculus.specs.Generators.{binomial, components}
use Rattle.flat_cert.specs.declared.lines.FlatKind.TheVariants.{Bin}
use Rattle.flat_making.proofs.Naming.{names_relators, binomials_as}
use Rattle.flat_making.proofs.kinds.put_relator_binomials.Goals as goal

pub loop-r-preserved : goal.loop-r-preserved
loop-r-preserved c = record {
  count = omega (arith, c.loop-r.invariant.count);
  names = names_relators (λ (r : List Letter). map (binomial (image r)) (components c.args.p.now)) (λ j. map (λ k. Some (Bin j k)) (components c.args.p.now))
      c.relators-r-items.result.now c.loop-r.r-index c.r-item.result _ (c.loop-r.relator + 1)
      c.args.made.now.items c.loop-r.made.items c.put_binomials.new.made.items c.loop-r-test.true c.r-item.is (omega (arith, c.loop-r.invariant.count))
      c.loop-r.invariant.names
      (binomials_as c.image.result _ c.count.result _ (λ k. Some (Bin (c.loop-r.relator + 1) k)) c.loop-r.made.items c.put_binomials.new.made.items
      c.image.ensures.is c.count.ensures c.in_ok-put_binomials.ensures);
}
