use Rattle.std.proofs.Common.{◌≡◌, ◌∙◌, ◌+◌, suc, true, false, List, ◌∷◌, drop, take, sym, ap, arith}
use Rattle.module_vec.proofs.FallingTerms.{drop_read}
use Rattle.report_reading.specs.declared.replies.ReplyData.{ReplyData}
use Rattle.report_reading.specs.Telling.{is_open}
use Rattle.check_commands.specs.Replies.{is_of, answers_of, left_open}
use Rattle.check_commands.proofs.Answering.{one_open, one_settled, one_passed}
use Rattle.check_commands.proofs.replies.left_open.Goals.{then-is_of+else-left-eq0+then-is_open, then-is_of+else-left-eq0+else-is_open, else-is_of}
use Rattle.check_commands.proofs.replies.left_open.Goals as goal

pub loop-reply-preserved : goal.loop-reply-preserved
loop-reply-preserved c =
    let rest : List ReplyData = drop (c.loop-reply.reply-index + 1) c.args.replies.now in
    let split : drop c.loop-reply.reply-index c.args.replies.now ≡ c.reply-item.result ∷ rest =
    drop_read c.args.replies.now c.loop-reply.reply-index c.reply-item.result c.loop-reply-test.true c.reply-item.is in
    let here = ap (λ (rs : List ReplyData). left_open (take c.loop-reply.left (answers_of c.args.session true rs))) split in
    elim c.if-is_of.branch [
      | then-is_of+else-left-eq0+then-is_open w ↦
          let some : c.loop-reply.left ≡ suc c.if-is_of.left = (let no = w.if-left-eq0.false in let is = w.left-is in grind arith) in
          let one = one_open c.args.session c.if-is_of.left c.reply-item.result rest (sym c.is_of.ensures ∙ w.if-is_of.true)
          (sym w.is_open.ensures ∙ w.if-is_open.true) in
          let counted = ap (λ k. left_open (take k (answers_of c.args.session true (c.reply-item.result ∷ rest)))) some in
          (omega (arith, c.loop-reply.invariant.0, here, counted, one, w.open-is), omega (arith, c.loop-reply.invariant.1, w.open-is))
      | then-is_of+else-left-eq0+else-is_open w ↦
          let some : c.loop-reply.left ≡ suc c.if-is_of.left = (let no = w.if-left-eq0.false in let is = w.left-is in grind arith) in
          let one = one_settled c.args.session c.if-is_of.left c.reply-item.result rest (sym c.is_of.ensures ∙ w.if-is_of.true)
          (sym w.is_open.ensures ∙ w.if-is_open.false) in
          let counted = ap (λ k. left_open (take k (answers_of c.args.session true (c.reply-item.result ∷ rest)))) some in
          (omega (arith, c.loop-reply.invariant.0, here, counted, one, w.open-is), omega (arith, c.loop-reply.invariant.1, w.open-is))
      | else-is_of w ↦
          let one = one_passed c.args.session c.loop-reply.left c.reply-item.result rest (sym c.is_of.ensures ∙ w.if-is_of.false) in
          let counted = ap (λ k. left_open (take k (answers_of c.args.session true rest))) w.left-is in
          (omega (arith, c.loop-reply.invariant.0, here, counted, one, w.open-is), omega (arith, c.loop-reply.invariant.1, w.open-is))
    ]
