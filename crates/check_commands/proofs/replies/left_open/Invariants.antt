use Rattle.std.proofs.Common.{◌≡◌, ◌+◌, ◌≤◌, take, drop, true}
use Rattle.check_commands.specs.Replies.{answers_of, left_open}
use Rattle.check_commands.proofs.replies.left_open.Given as goal

-- so many are open, and those among the answers that are left
abbrev pub invariant-loop-reply : goal.invariant-loop-reply
invariant-loop-reply l =
    (left_open (take l.count (answers_of l.session true l.replies))
    ≡ l.open + left_open (take l.left (answers_of l.session true (drop l.reply-index l.replies))))
    × (l.open ≤ l.reply-index)
