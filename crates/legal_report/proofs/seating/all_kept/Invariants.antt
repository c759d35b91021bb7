use Rattle.std.proofs.Common.{◌≡◌, ◌++◌, length}
use Rattle.std.specs.Vec.Iter.{into_iter_items, into_iter_len}
use Rattle.legal_report.specs.Seats.{AreKept}
use Rattle.legal_report.proofs.seating.all_kept.Given as goal

abbrev pub invariant-loop-actor : goal.invariant-loop-actor
invariant-loop-actor l = (l.yielded ++ into_iter_items l.actor-iterator ≡ into_iter_items l.initial.actor-iterator)
    × AreKept l.book.entries l.book.seal l.yielded l.sessions.items
    × (into_iter_len l.actor-iterator ≡ length (into_iter_items l.actor-iterator))
