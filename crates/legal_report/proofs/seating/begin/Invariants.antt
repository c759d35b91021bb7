use Rattle.std.proofs.Common.{◌≡◌, ℕ, ◌<◌, map, slice_get}
use Rattle.std.specs.Arc.{arc_value}
use Rattle.legal_report.proofs.seating.begin.Given as goal

abbrev pub invariant-loop-at : goal.invariant-loop-at
invariant-loop-at g l = (k : ℕ) → k < l.at → slice_get (g.F.Front.entries l.list) k ≡ slice_get (map arc_value l.entries) k
