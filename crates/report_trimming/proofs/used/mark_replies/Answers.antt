use Rattle.std.proofs.Common.{◌≤◌, length, rules, arith, ◌∙◌}
use Rattle.report_trimming.specs.Kept.{IsMarked}
use Rattle.report_trimming.proofs.Marking.{within, got, replies_next, replies_only}
use Rattle.report_trimming.proofs.used.mark_replies.Goals as goal

pub mark_proofs-requires : goal.mark_proofs-requires
mark_proofs-requires c = λ j k steps is n.
    let read = got c.args.replies.now c.loop-reply.reply-index c.reply-item.result c.loop-reply-test.true c.reply-item.is in
    let l = c.requires k (record {
      place = c.loop-reply.reply-index;
      reply = c.reply-item.result;
      subject = j;
      steps = steps;
      replied = read;
      shown = is;
      names = n;
    }) in
    let e = c.loop-reply.invariant.size in
    omega (arith, l, e)

pub loop-reply-preserved : goal.loop-reply-preserved
loop-reply-preserved c =
    let read = got c.args.replies.now c.loop-reply.reply-index c.reply-item.result c.loop-reply-test.true c.reply-item.is in
    record {
      size = c.mark_proofs.ensures.length ∙ c.loop-reply.invariant.size;
      set = replies_next (IsMarked c.loop-reply.marks.items)
          (IsMarked c.mark_proofs.new.marks.items) c.mark_proofs.ensures.kept c.args.replies.now c.loop-reply.reply-index
          c.reply-item.result read c.loop-reply.invariant.set c.mark_proofs.ensures.set;
      kept = λ k h. c.mark_proofs.ensures.kept k (c.loop-reply.invariant.kept k h);
      only = replies_only c.args.marks.now.items c.loop-reply.marks.items c.mark_proofs.new.marks.items c.args.replies.now c.loop-reply.reply-index
          c.reply-item.result read c.loop-reply.invariant.only c.mark_proofs.ensures.only;
    }

pub returns-clause-set : goal.returns-clause-set
returns-clause-set c = λ k n.
    let le : length c.args.replies.now ≤ c.loop-reply.reply-index = search rules in
    let lt = within c.args.replies.now n.place n.reply n.replied in
    c.loop-reply.invariant.set n.place n.subject k n.reply n.steps (omega (arith, le, lt)) n.replied n.shown n.names
