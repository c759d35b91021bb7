use Rattle.std.proofs.Common.{◌<◌, ◌≤◌, length, rules, arith}
use Rattle.report_trimming.proofs.Marking.{within, got, replies_next}
use Rattle.report_trimming.proofs.tests.replies_are_below.Goals as goal

pub loop-reply-preserved : goal.loop-reply-preserved
loop-reply-preserved c =
    let read = got c.args.replies.now c.loop-reply.reply-index c.reply-item.result c.loop-reply-test.true c.reply-item.is in
    replies_next (λ k. k < c.args.count) (λ k. k < c.args.count) (λ k h. h) c.args.replies.now c.loop-reply.reply-index c.reply-item.result read
    c.loop-reply.invariant (c.proofs_are_below.ensures c.if-not-proofs_are_below.false)

pub returns : goal.returns
returns c = λ truth k n.
    let le : length c.args.replies.now ≤ c.loop-reply.reply-index = search rules in
    let lt = within c.args.replies.now n.place n.reply n.replied in
    c.loop-reply.invariant n.place n.subject k n.reply n.steps (omega (arith, le, lt)) n.replied n.shown n.names
