use Rattle.legal_report.proofs.Lasting.{AreFoundTo}
use Rattle.legal_report.proofs.last.kinds_of.Given as goal

abbrev pub invariant-loop-session : goal.invariant-loop-session
invariant-loop-session g l = AreFoundTo l.p (g.F.Front.entries l.list) (g.F.Front.seal l.list) l.sessions l.session-index l.kinds.items
