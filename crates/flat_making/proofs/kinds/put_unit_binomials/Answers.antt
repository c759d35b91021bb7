use Rattle.std.proofs.Common.{map, refl}
use Rattle.std.specs.Prelude.{None}
use Rattle.fox_calculus.specs.Generators.{binomial, unit_monomial, components}
use Rattle.flat_making.proofs.Naming.{names_numbers, binomials_as}
use Rattle.flat_making.proofs.kinds.put_unit_binomials.Goals as goal

pub loop-g-preserved : goal.loop-g-preserved
loop-g-preserved c =
    names_numbers (λ g. map (binomial (unit_monomial g)) (components c.args.p.now)) (λ g. map (λ k. None) (components c.args.p.now)) c.loop-g.g
    c.args.made.now.items c.loop-g.made.items c.put_units.new.made.items c.loop-g.invariant
    (binomials_as (unit_monomial c.loop-g.g) _ c.count.result _ (λ k. None) c.loop-g.made.items c.put_units.new.made.items refl c.count.ensures
    c.in_ok-put_units.ensures)
