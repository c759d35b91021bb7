use Rattle.std.proofs.Common.{map}
use Rattle.std.specs.List.{range_with_len}
use Rattle.fox_calculus.specs.Generators.{constant}
use Rattle.fox_calculus.proofs.GrowingLists.{puts_none, puts_number, puts_up_to}
use Rattle.fox_calculus.proofs.listing.put_constants.Goals as goal

pub loop-c-init : goal.loop-c-init
loop-c-init c = puts_none c.args.made.now.items

pub loop-c-preserved : goal.loop-c-preserved
loop-c-preserved c =
    puts_number (constant c.args.n) c.loop-c.c c.args.made.now.items c.loop-c.made.items c.put.new.made.items c.loop-c.invariant
    (λ fs h. c.in_ok-put.ensures fs (constant c.args.n c.loop-c.c) c.in_ok-constant.ensures h)

pub returns : goal.returns
returns c =
    puts_up_to (λ n. map (constant c.args.n) (range_with_len 0 n)) c.loop-c.c c.args.count c.args.made.now.items c.loop-c.made.items
    c.loop-c.auto.c-end c.loop-c-test.false c.loop-c.invariant
