use Rattle.std.proofs.Common.{take}
use Rattle.derivation.specs.Making.{Runs}
use Rattle.derivation.proofs.steps.make_all.Given as goal

abbrev pub invariant-loop-made : goal.invariant-loop-made
invariant-loop-made l = Runs l.p l.fn.moving (take l.made l.moves) l.moving
