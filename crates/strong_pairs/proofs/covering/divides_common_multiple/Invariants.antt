use Rattle.std.proofs.Common.{IsTrue, ◌↔◌}
use Rattle.strong_pairs.proofs.CoverTests.{BelowBoth}
use Rattle.strong_pairs.proofs.covering.divides_common_multiple.Given as goal

abbrev pub invariant-loop-i : goal.invariant-loop-i
invariant-loop-i l = IsTrue l.all ↔ BelowBoth l.by l.first l.second l.i
