use Rattle.std.proofs.Common.{take}
use Rattle.cert_checker.specs.States.{AreNear}
use Rattle.saved_basis.proofs.lines.are_near.Given as goal

abbrev pub invariant-loop-step : goal.invariant-loop-step
invariant-loop-step g l = AreNear (g.L.VecList.vectors l.list) (take l.step-index l.steps)
