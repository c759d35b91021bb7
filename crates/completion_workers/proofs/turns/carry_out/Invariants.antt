use Rattle.std.proofs.Common.{◌-◌, ◌^◌, length}
use Rattle.completion_workers.specs.Growth.{HasGrown, AreFirstLeads}
use Rattle.completion_workers.proofs.turns.carry_out.Given as goal

abbrev pub invariant-loop-fate : goal.invariant-loop-fate
invariant-loop-fate g l = HasGrown l.initial.seat l.seat × AreFirstLeads l.seat.items l.index

abbrev pub decreases-loop-fate : goal.decreases-loop-fate
decreases-loop-fate g l = 2 ^ 32 - length l.seat.items
