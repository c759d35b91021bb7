use Rattle.std.proofs.Common.{map}
use Rattle.std.specs.Prelude.{Some}
use Rattle.std.specs.List.{range_with_len}
use Rattle.fox_calculus.specs.Generators.{constant}
use Rattle.flat_cert.specs.declared.lines.FlatKind.TheVariants.{Mod}
use Rattle.flat_making.proofs.Naming.{names_none, names_number, names_up_to, constant_is_some}
use Rattle.flat_making.proofs.kinds.put_constants.Goals as goal

pub loop-c-init : goal.loop-c-init
loop-c-init c = names_none c.args.made.now.items

pub loop-c-preserved : goal.loop-c-preserved
loop-c-preserved c =
    names_number (constant c.args.n) (λ k. Some (Mod k)) c.loop-c.c c.args.made.now.items c.loop-c.made.items c.put.new.made.items c.loop-c.invariant
    (c.in_ok-put.ensures (constant c.args.n c.loop-c.c)
    ((λ e. absurd cc), (λ zero. absurd (constant_is_some c.args.n c.loop-c.c c.requires zero))))

pub returns : goal.returns
returns c =
    names_up_to (λ n. map (constant c.args.n) (range_with_len 0 n)) (λ n. map (λ k. Some (Mod k)) (range_with_len 0 n)) c.loop-c.c c.args.count
    c.args.made.now.items c.loop-c.made.items c.loop-c.auto.c-end c.loop-c-test.false c.loop-c.invariant
