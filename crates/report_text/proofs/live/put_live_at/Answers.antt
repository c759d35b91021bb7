use Rattle.std.proofs.Common.{rules, arith}
use Rattle.std.proofs.lemmas.Result.{err_from_is_err_and}
use Rattle.report_text.proofs.Lists.{got}
use Rattle.report_text.proofs.Telling.{sessions_go_on, sessions_stop, sessions_end}
use Rattle.report_text.proofs.live.put_live_at.Goals as goal

pub returns-in_err-put_session_at-clause-text : goal.returns-in_err-put_session_at-clause-text
returns-in_err-put_session_at-clause-text g c = λ ts are.
    let p = err_from_is_err_and c.from_residual.result c.from_residual.ensures.1 in
    let read = got c.args.sessions.now c.loop-session.session-index c.session-item.result c.loop-session-test.true c.session-item.is in
    rw p.1 (sessions_stop c.args.log.now.pres c.args.log.now.entries c.args.log.now.seal c.args.sessions.now ts are
    c.loop-session.session-index c.session-item.result read c.loop-session-test.true c.args.front (g.K.Sink.taken c.args.out.now)
    (g.K.Sink.taken c.loop-session.out) (g.K.Sink.taken c.put_session_at.new.out)
    (c.loop-session.invariant.text ts are) c.in_err-put_session_at.ensures.text)

pub loop-session-preserved : goal.loop-session-preserved
loop-session-preserved g c =
    let read = got c.args.sessions.now c.loop-session.session-index c.session-item.result c.loop-session-test.true c.session-item.is in
    record {
      text = λ ts are. sessions_go_on c.args.log.now.pres c.args.log.now.entries c.args.log.now.seal
          c.args.sessions.now ts are c.loop-session.session-index c.session-item.result read c.loop-session-test.true c.args.front
          (g.K.Sink.taken c.args.out.now)
          (g.K.Sink.taken c.loop-session.out) (g.K.Sink.taken c.put_session_at.new.out)
          (c.loop-session.invariant.text ts are) c.in_ok-put_session_at.ensures.text;
      later = omega (arith, c.loop-session.invariant.later, c.in_ok-put_session_at.ensures.counts);
    }

pub returns-clause-text : goal.returns-clause-text
returns-clause-text g c = λ ts are.
    sessions_end c.args.log.now.pres c.args.log.now.entries c.args.log.now.seal c.args.sessions.now ts are
    c.loop-session.session-index (search rules) (g.K.Sink.taken c.args.out.now) (g.K.Sink.taken c.loop-session.out) c.args.front
    (c.loop-session.invariant.text ts are)
