use Rattle.std.proofs.Common.{◌≡◌, ◌⊎◌, ◌<◌, ℕ, List, Some, length}
use Rattle.std.specs.List.{slice_get}
use Rattle.module_vec.specs.declared.steps.Step.{Step}
use Rattle.report_reading.specs.declared.replies.ReplyData.{ReplyData}
use Rattle.report_trimming.specs.Kept.{IsMarked}
use Rattle.report_trimming.specs.Used.{Name, NamedInProof}
use Rattle.report_trimming.proofs.used.mark_replies.Given as goal

abbrev pub invariant-loop-reply : goal.invariant-loop-reply
invariant-loop-reply l = record {
  size : length l.marks.items ≡ length l.initial.marks.items;
  set : (i j k : ℕ) (r : ReplyData) (ss : List Step) → i < l.reply-index → slice_get l.replies i ≡ Some r → slice_get r.proofs j ≡ Some ss → Name ss k
      → IsMarked l.marks.items k;
  kept : (k : ℕ) → IsMarked l.initial.marks.items k → IsMarked l.marks.items k;
  only : (k : ℕ) → IsMarked l.marks.items k → IsMarked l.initial.marks.items k ⊎ NamedInProof l.replies k;
}
