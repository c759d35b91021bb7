use Rattle.std.proofs.Common.{◌≡◌, ◌≤◌, ◌*◌, ◌^◌, take, sum_by}
use Rattle.std.specs.Prelude.{unsigned_abs}
use Rattle.laurent_terms.proofs.integers.absolute_total.Given as goal

abbrev pub invariant-loop-z : goal.invariant-loop-z
invariant-loop-z l = (l.total ≡ sum_by unsigned_abs (take l.z-index l.p)) × (l.total ≤ l.z-index * 2 ^ 31)
