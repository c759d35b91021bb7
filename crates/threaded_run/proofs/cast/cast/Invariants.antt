use Rattle.std.proofs.Common.{◌≡◌, [], ◌++◌, length}
use Rattle.std.specs.Arc.{arc_value}
use Rattle.std.specs.Vec.Iter.{into_iter_items, into_iter_len}
use Rattle.threaded_run.specs.Parts.{AreCast}
use Rattle.threaded_run.proofs.cast.cast.Given as goal

abbrev pub invariant-loop-number : goal.invariant-loop-number
invariant-loop-number l = AreCast (arc_value l.p) l.number [] l.actors.items

abbrev pub invariant-loop-session : goal.invariant-loop-session
invariant-loop-session l = (l.yielded ++ into_iter_items l.session-iterator ≡ into_iter_items l.initial.session-iterator)
    × AreCast (arc_value l.p) l.fn.workers l.yielded l.actors.items
    × (into_iter_len l.session-iterator ≡ length (into_iter_items l.session-iterator))
