use Rattle.std.proofs.Common.{ℕ, ◌<◌}
use Rattle.strong_pairs.specs.Covering.{Covers}
use Rattle.strong_pairs.proofs.covering.covers.Given as goal

abbrev pub invariant-loop-k : goal.invariant-loop-k
invariant-loop-k g l = (n : ℕ) → n < l.k → Covers (g.L.VecList.vectors l.list) l.i l.j n → ⊥
