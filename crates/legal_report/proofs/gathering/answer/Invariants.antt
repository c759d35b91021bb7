use Rattle.legal_report.proofs.Answering.{AreAnsweredTo}
use Rattle.legal_report.proofs.gathering.answer.Given as goal

abbrev pub invariant-loop-at : goal.invariant-loop-at
invariant-loop-at g l = AreAnsweredTo l.p (g.F.Front.entries l.list) (g.F.Front.seal l.list) l.at l.initial.sessions l.sessions
