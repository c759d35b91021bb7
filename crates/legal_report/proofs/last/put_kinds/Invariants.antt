use Rattle.legal_report.proofs.Lasting.{ArePutTo}
use Rattle.legal_report.proofs.last.put_kinds.Given as goal

abbrev pub invariant-loop-place : goal.invariant-loop-place
invariant-loop-place g l =
    ArePutTo l.p (g.F.Front.entries l.list) (g.F.Front.seal l.list) l.session l.place l.initial.kinds.items l.kinds.items
