use Rattle.std.proofs.Common.{◌≡◌, length}
use Rattle.basis_log.proofs.rows.directory.Given as goal

abbrev pub invariant-loop : goal.invariant-loop
invariant-loop l = length l.made.items ≡ l.counter
