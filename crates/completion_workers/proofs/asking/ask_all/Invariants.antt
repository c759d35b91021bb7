use Rattle.std.proofs.Common.{◌-◌, length}
use Rattle.std.specs.Arc.{arc_value}
use Rattle.completion_workers.specs.Growth.{AreFirstLeads}
use Rattle.completion_workers.specs.Asking.{HasGoneOn}
use Rattle.completion_workers.proofs.asking.ask_all.Given as goal

abbrev pub invariant-loop-session : goal.invariant-loop-session
invariant-loop-session g l =
    HasGoneOn (arc_value l.shared.p.now) l.initial.session l.session l.initial.seat l.seat × AreFirstLeads l.seat.items l.index

abbrev pub decreases-loop-session : goal.decreases-loop-session
decreases-loop-session g l = length l.session.questions - length l.session.kept
