use Rattle.std.proofs.Common.{◌≡◌, ◌++◌, length, drop}
use Rattle.std.specs.Vec.{vec_capacity}
use Rattle.basis_log.proofs.sights.extend.Given as goal

abbrev pub invariant-loop-at : goal.invariant-loop-at
invariant-loop-at g l =
    (l.others ≡ l.initial.others)
    × (length l.sights.items ≡ l.at)
    × (l.sights.items ++ drop l.at l.others ≡ l.initial.sights.items ++ drop (length l.initial.sights.items) l.initial.others)
    × (vec_capacity l.sights ≡ vec_capacity l.initial.sights)
