use Rattle.std.proofs.Common.{◌≡◌, ◌++◌, length}
use Rattle.std.specs.Vec.Iter.{into_iter_items, into_iter_len}
use Rattle.report_trimming.specs.Kept.{kept_by}
use Rattle.report_trimming.specs.Trimming.{Pairwise, IsReplyRenamed}
use Rattle.report_trimming.proofs.trimming.renamed_replies.Given as goal

abbrev pub invariant-loop-reply : goal.invariant-loop-reply
invariant-loop-reply l = record {
  split : l.yielded ++ into_iter_items l.reply-iterator ≡ l.fn.replies.items;
  left : into_iter_len l.reply-iterator ≡ length (into_iter_items l.reply-iterator);
  renamed : Pairwise (IsReplyRenamed (kept_by l.kept)) l.yielded l.made.items;
}
