use Rattle.std.proofs.Common.{take}
use Rattle.hom_check.proofs.Chaining.{AreShownTo}
use Rattle.hom_check.proofs.first.first_unshown.Given as goal

abbrev pub invariant-loop-place : goal.invariant-loop-place
invariant-loop-place g l = AreShownTo (take l.front (g.L.VecList.vectors l.list)) l.q l.place
