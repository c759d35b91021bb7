use Rattle.std.proofs.Common.{take}
use Rattle.cert_checker.specs.States.{AreNear}
use Rattle.cert_checker.proofs.steps.are_near.Given as goal

abbrev pub invariant-loop-step : goal.invariant-loop-step
invariant-loop-step l = AreNear l.entries (take l.step-index l.steps)
