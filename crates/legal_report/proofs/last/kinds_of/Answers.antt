use Rattle.legal_report.proofs.Lasting.{one_found}
use Rattle.legal_report.proofs.last.kinds_of.Goals as goal

pub loop-session-preserved : goal.loop-session-preserved
loop-session-preserved g c =
    one_found c.args.p.now (g.F.Front.entries c.args.list.now) (g.F.Front.seal c.args.list.now) c.args.sessions.now c.loop-session.session-index
    c.loop-session.kinds.items c.loop-session.invariant c.session-item.result c.put_kinds.new.kinds.items c.loop-session-test.true c.session-item.is
    c.in_ok-put_kinds.ensures
