use Rattle.std.proofs.Common.{◌≡◌, ◌++◌, length}
use Rattle.std.specs.Vec.Iter.{into_iter_items, into_iter_len}
use Rattle.threaded_run.specs.Parts.{seated_in}
use Rattle.threaded_run.proofs.cast.seated.Given as goal

abbrev pub invariant-loop-actor : goal.invariant-loop-actor
invariant-loop-actor l = (l.yielded ++ into_iter_items l.actor-iterator ≡ into_iter_items l.initial.actor-iterator)
    × (l.seated.items ≡ seated_in l.yielded)
    × (into_iter_len l.actor-iterator ≡ length (into_iter_items l.actor-iterator))
