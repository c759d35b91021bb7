use Rattle.std.proofs.Common.{map}
use Rattle.fox_calculus.specs.Fox.{fox}
use Rattle.fox_calculus.proofs.GrowingLists.{puts_none, puts_item, puts_all}
use Rattle.fox_calculus.proofs.listing.put_relator_vectors.Goals as goal

pub loop-r-init : goal.loop-r-init
loop-r-init c = puts_none c.args.made.now.items

pub loop-r-preserved : goal.loop-r-preserved
loop-r-preserved c =
    puts_item fox c.relators-r-items.result.now c.loop-r.r-index c.r-item.result _ c.args.made.now.items c.loop-r.made.items c.put.new.made.items
    c.loop-r-test.true
    c.r-item.is c.loop-r.invariant (λ fs h. c.in_ok-put.ensures fs (fox c.r-item.result) c.in_ok-fox.ensures.is h)

pub returns : goal.returns
returns c =
    puts_all (map fox) c.relators-r-items.result.now c.args.p.now.relators c.loop-r.r-index c.args.made.now.items c.loop-r.made.items c.relators-r-items.ensures
    c.loop-r-test.false c.loop-r.invariant
