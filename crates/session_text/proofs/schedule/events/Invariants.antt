use Rattle.std.proofs.Common.{length, All}
use Rattle.session_text.specs.Schedule.{IsEvent, schedule_text}
use Rattle.session_text.proofs.EventTurns.{Going}
use Rattle.session_text.proofs.schedule.events.Given as goal

abbrev pub invariant-loop-rest : goal.invariant-loop-rest
invariant-loop-rest l = record {
  so_far : Going l.sessions (schedule_text l.sessions l.text) l.events.items l.rest;
  range : All (IsEvent l.sessions) l.events.items;
}

abbrev pub decreases-loop-rest : goal.decreases-loop-rest
decreases-loop-rest l = length l.rest
