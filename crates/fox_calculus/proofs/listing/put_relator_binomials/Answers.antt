use Rattle.std.proofs.Common.{map, List}
use Rattle.std.specs.List.{flat_map}
use Rattle.free_words.specs.declared.letter.Letter.{Letter}
use Rattle.fox_calculus.specs.Fox.{image}
use Rattle.fox_calculus.specs.Generators.{binomial, components}
use Rattle.fox_calculus.proofs.GrowingLists.{puts_none, puts_list_item, puts_all, binomials_as}
use Rattle.fox_calculus.proofs.listing.put_relator_binomials.Goals as goal

pub loop-r-init : goal.loop-r-init
loop-r-init c = puts_none c.args.made.now.items

pub loop-r-preserved : goal.loop-r-preserved
loop-r-preserved c =
    puts_list_item (λ (r : List Letter). map (binomial (image r)) (components c.args.p.now)) c.relators-r-items.result.now c.loop-r.r-index c.r-item.result _
    c.args.made.now.items c.loop-r.made.items c.put_binomials.new.made.items
    c.loop-r-test.true c.r-item.is c.loop-r.invariant
    (binomials_as c.image.result _ c.count.result _ c.loop-r.made.items c.put_binomials.new.made.items c.image.ensures.is c.count.ensures
    (λ fs h. c.in_ok-put_binomials.ensures fs h))

pub returns : goal.returns
returns c =
    puts_all (flat_map (λ (r : List Letter). map (binomial (image r)) (components c.args.p.now))) c.relators-r-items.result.now c.args.p.now.relators
    c.loop-r.r-index c.args.made.now.items c.loop-r.made.items
    c.relators-r-items.ensures c.loop-r-test.false c.loop-r.invariant
