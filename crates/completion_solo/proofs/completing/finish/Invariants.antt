use Rattle.std.specs.Arc.{arc_value}
use Rattle.completion_solo.specs.Rounds.{left}
use Rattle.completion_solo.proofs.Composing.{IsRunning}
use Rattle.completion_solo.proofs.completing.finish.Given as goal

abbrev pub invariant-loop-index : goal.invariant-loop-index
invariant-loop-index l = record {
  running : IsRunning (arc_value l.p) l.initial.book l.book l.index l.stale;
}

abbrev pub decreases-loop-index : goal.decreases-loop-index
decreases-loop-index l = left l.book l.stale
