use Rattle.std.proofs.Common.{map}
use Rattle.fox_calculus.specs.Generators.{binomial, unit_monomial, components}
use Rattle.fox_calculus.proofs.GrowingLists.{lists_number, binomials_as}
use Rattle.fox_calculus.proofs.listing.put_unit_binomials.Goals as goal

pub loop-g-preserved : goal.loop-g-preserved
loop-g-preserved c =
    lists_number (λ g. map (binomial (unit_monomial g)) (components c.args.p.now)) c.loop-g.g c.args.made.now.items c.loop-g.made.items
    c.put_binomials.new.made.items
    c.loop-g.invariant
    (binomials_as c.unit_monomial.result _ c.count.result _ c.loop-g.made.items c.put_binomials.new.made.items c.unit_monomial.ensures.is c.count.ensures
    (λ fs h. c.in_ok-put_binomials.ensures fs h))
