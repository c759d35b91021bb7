use Rattle.std.proofs.Common.{◌≡◌, length, map, take}
use Rattle.std.specs.Arc.{arc_value}
use Rattle.basis_log.proofs.items.same_entries.Given as goal

abbrev pub invariant-loop-at : goal.invariant-loop-at
invariant-loop-at l = (length l.entries ≡ length l.others) × (take l.at (map arc_value l.entries) ≡ take l.at (map arc_value l.others))
