use Rattle.std.proofs.Common.{◌≡◌, slice_get, drop}
use Rattle.check_commands.specs.Replies.{answers_of}
use Rattle.check_commands.proofs.replies.answer_at.Given as goal

-- the place among the answers that are left
abbrev pub invariant-loop-reply : goal.invariant-loop-reply
invariant-loop-reply l =
    slice_get (answers_of l.session l.live l.replies) l.place ≡ slice_get (answers_of l.session l.live (drop l.reply-index l.replies)) l.left
