use Rattle.completion_workers.specs.Growth.{HasGrown, AreFirstLeads}
use Rattle.completion_workers.proofs.turns.run_worker.Given as goal

abbrev pub invariant-loop : goal.invariant-loop
invariant-loop g l = HasGrown l.initial.seat l.seat × AreFirstLeads l.seat.items l.index
