use Rattle.std.proofs.Common.{◌-◌, length}
use Rattle.legal_report.specs.Gathering.{IsAskedOn}
use Rattle.legal_report.proofs.gathering.answer_session.Given as goal

abbrev pub invariant-loop-alloc : goal.invariant-loop-alloc
invariant-loop-alloc g l = IsAskedOn l.p (g.F.Front.entries l.list) (g.F.Front.seal l.list) l.initial.session l.session

abbrev pub decreases-loop-alloc : goal.decreases-loop-alloc
decreases-loop-alloc g l = length l.session.questions - length l.session.kept
