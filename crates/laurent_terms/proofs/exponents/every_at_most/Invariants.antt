use Rattle.std.proofs.Common.{IsTrue, ◌↔◌}
use Rattle.laurent_terms.proofs.Combining.{AtMostBelow}
use Rattle.laurent_terms.proofs.exponents.every_at_most.Given as goal

abbrev pub invariant-loop-i : goal.invariant-loop-i
invariant-loop-i l = IsTrue l.all ↔ AtMostBelow l.xs l.ys l.i
