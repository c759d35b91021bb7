use Rattle.std.proofs.Common.{map, arith}
use Rattle.std.specs.Prelude.{None}
use Rattle.std.specs.List.{range_with_len}
use Rattle.fox_calculus.specs.Generators.{binomial, unit_monomial}
use Rattle.flat_making.proofs.Naming.{names_none, names_number, names_up_to, unit_is_some}
use Rattle.flat_making.proofs.kinds.put_units.Goals as goal

pub loop-c-init : goal.loop-c-init
loop-c-init c = names_none c.args.made.now.items

pub loop-c-preserved : goal.loop-c-preserved
loop-c-preserved c =
    names_number (binomial (unit_monomial c.args.g)) (λ k. None) c.loop-c.c c.args.made.now.items c.loop-c.made.items c.put.new.made.items c.loop-c.invariant
    (c.in_ok-put.ensures (binomial (unit_monomial c.args.g) c.loop-c.c)
    ((λ e. absurd cc), (λ zero. absurd (unit_is_some c.args.g c.loop-c.c (omega (arith, c.requires)) zero))))

pub returns : goal.returns
returns c =
    names_up_to (λ n. map (binomial (unit_monomial c.args.g)) (range_with_len 0 n)) (λ n. map (λ k. None) (range_with_len 0 n)) c.loop-c.c c.args.count
    c.args.made.now.items c.loop-c.made.items c.loop-c.auto.c-end c.loop-c-test.false c.loop-c.invariant
