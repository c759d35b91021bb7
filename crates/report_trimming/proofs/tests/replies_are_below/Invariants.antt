use Rattle.std.proofs.Common.{◌≡◌, ◌<◌, ℕ, List, Some}
use Rattle.std.specs.List.{slice_get}
use Rattle.module_vec.specs.declared.steps.Step.{Step}
use Rattle.report_reading.specs.declared.replies.ReplyData.{ReplyData}
use Rattle.report_trimming.specs.Used.{Name}
use Rattle.report_trimming.proofs.tests.replies_are_below.Given as goal

abbrev pub invariant-loop-reply : goal.invariant-loop-reply
invariant-loop-reply l = (i j k : ℕ) (r : ReplyData) (ss : List Step) → i < l.reply-index → slice_get l.replies i ≡ Some r → slice_get r.proofs j ≡ Some ss
    → Name ss k → k < l.count
