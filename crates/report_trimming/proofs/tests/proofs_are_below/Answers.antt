use Rattle.std.proofs.Common.{◌≡◌, ◌<◌, ◌≤◌, Some, length, slice_get, rules, arith}
use Rattle.report_trimming.proofs.Marking.{within, got, proofs_next}
use Rattle.report_trimming.proofs.tests.proofs_are_below.Goals as goal

pub loop-steps-preserved : goal.loop-steps-preserved
loop-steps-preserved c =
    let read : slice_get c.args.proofs.now c.loop-steps.steps-index ≡ Some c.steps.result.now = search (rules, got) in
    proofs_next (λ k. k < c.args.count) (λ k. k < c.args.count) (λ k h. h) c.args.proofs.now c.loop-steps.steps-index c.steps.result.now read
    c.loop-steps.invariant (c.are_below.ensures c.if-not-are_below.false)

pub returns : goal.returns
returns c = λ truth j k steps is n.
    let le : length c.args.proofs.now ≤ c.loop-steps.steps-index = search rules in
    let lt = within c.args.proofs.now j steps is in
    c.loop-steps.invariant j k steps (omega (arith, le, lt)) is n
