use Rattle.std.proofs.Common.{◌≤◌, length, rules, arith}
use Rattle.report_trimming.proofs.Marking.{within, got, lower_next}
use Rattle.report_trimming.proofs.tests.recipes_are_lower.Goals as goal

pub loop-number-preserved : goal.loop-number-preserved
loop-number-preserved c =
    let read = got c.args.entries.now c.loop-number.number c.index-entries-number.result c.loop-number-test.true c.index-entries-number.is in
    lower_next c.args.entries.now c.loop-number.number c.index-entries-number.result read
    (c.recipe_is_below.ensures c.if-not-recipe_is_below.false) c.loop-number.invariant

pub returns : goal.returns
returns c = λ truth j k e is n.
    let le : length c.args.entries.now ≤ c.loop-number.number = search rules in
    let lt = within c.args.entries.now j e is in
    c.loop-number.invariant j k e (omega (arith, le, lt)) is n
