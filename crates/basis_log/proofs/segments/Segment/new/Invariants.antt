use Rattle.std.proofs.Common.{◌≡◌, length}
use Rattle.basis_log.proofs.segments.Segment.new.Given as goal

abbrev pub invariant-loop : goal.invariant-loop
invariant-loop l = length l.cells.items ≡ l.counter
