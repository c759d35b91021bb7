use Rattle.std.proofs.Common.{◌≡◌, replicate}
use Rattle.interleave_core.specs.declared.hands.Hand.TheVariants.{Idle}
use Rattle.interleave_core.proofs.machine.idle_hands.Given as goal

abbrev pub invariant-loop : goal.invariant-loop
invariant-loop l = l.hands.items ≡ replicate l.counter Idle
