use Rattle.std.proofs.Common.{◌≡◌, length, take}
use Rattle.interleave_core.specs.Runs.{Run}
use Rattle.interleave_core.proofs.machine.Core.play.Given as goal

abbrev pub invariant-loop-event : goal.invariant-loop-event
invariant-loop-event l = record {
  run : Run l.initial.self (take l.event-index l.events) l.self;
  count : length l.self.sessions ≡ length l.initial.self.sessions;
}
