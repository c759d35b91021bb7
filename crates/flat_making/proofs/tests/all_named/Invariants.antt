use Rattle.std.proofs.Common.{take}
use Rattle.flat_making.specs.Making.{NameBelow}
use Rattle.flat_making.proofs.tests.all_named.Given as goal

abbrev pub invariant-loop-step : goal.invariant-loop-step
invariant-loop-step l = NameBelow l.front (take l.step-index l.steps)
