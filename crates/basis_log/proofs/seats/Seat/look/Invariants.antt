use Rattle.std.proofs.Common.{◌≡◌, ◌+◌, ◌-◌, length}
use mathlib.Core.List.{IsPrefix}
use Rattle.basis_log.proofs.seats.Seat.look.Given as goal

abbrev pub invariant-loop : goal.invariant-loop
invariant-loop l =
    (l.self.row ≡ l.initial.self.row) × (l.self.spare ≡ l.initial.self.spare) × IsPrefix l.initial.self.items l.self.items

abbrev pub decreases-loop : goal.decreases-loop
decreases-loop l = (length l.self.row.base + l.self.row.cells) - length l.self.items
