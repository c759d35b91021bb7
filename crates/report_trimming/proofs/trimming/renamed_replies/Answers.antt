use Rattle.std.proofs.Common.{◌≡◌, ◌∷◌, [], ◌++◌, List, length, arith, append_assoc, sym, ap, ◌∙◌}
use Rattle.std.specs.Vec.Iter.{into_iter_items}
use Rattle.report_reading.specs.declared.replies.ReplyData.{ReplyData}
use Rattle.report_trimming.specs.Kept.{kept_by}
use Rattle.report_trimming.specs.Trimming.{Pairwise, IsReplyRenamed}
use Rattle.std.proofs.Common.{subst}
use Rattle.report_trimming.proofs.Pairing.{pair_more}
use Rattle.report_trimming.proofs.trimming.renamed_replies.Goals as goal

pub loop-reply-preserved : goal.loop-reply-preserved
loop-reply-preserved c =
    let at = c.loop-reply in
    let steps : into_iter_items at.reply-iterator ≡ c.in-Some.reply ∷ into_iter_items c.next.new.self = c.in-Some.ensures.steps.0 in
    let one = c.in-Some.ensures.steps.1 in
    let split = ap (λ (r : List ReplyData). at.yielded ++ r) (sym steps) ∙ at.invariant.split in
    record {
      split = append_assoc at.yielded (c.in-Some.reply ∷ []) (into_iter_items c.next.new.self) ∙ split;
      left = omega (arith, ap length steps, one, at.invariant.left);
      renamed = subst (Pairwise (IsReplyRenamed (kept_by c.args.kept.now)) (at.yielded ++ c.in-Some.reply ∷ [])) (sym c.in_ok-push.ensures.items)
          (pair_more (IsReplyRenamed (kept_by c.args.kept.now)) at.yielded at.made.items c.in-Some.reply c.in_ok-renamed_reply.field-0
          at.invariant.renamed c.in_ok-renamed_reply.ensures);
    }
