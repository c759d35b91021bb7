use Rattle.std.proofs.Common.{rules, arith}
use Rattle.std.proofs.lemmas.Result.{err_from_is_err_and}
use Rattle.report_text.specs.Closing.{HasClosings}
use Rattle.report_text.proofs.Lists.{got, all_more, all_taken}
use Rattle.report_text.proofs.Telling.{closings_go_on, closings_stop, closings_end}
use Rattle.report_text.proofs.closing.put_closings.Goals as goal

pub returns-in_err-put_session-clause-text : goal.returns-in_err-put_session-clause-text
returns-in_err-put_session-clause-text g c = λ ts are.
    let p = err_from_is_err_and c.from_residual.result c.from_residual.ensures.1 in
    let read = got c.args.sessions.now c.loop-session.session-index c.session-item.result c.loop-session-test.true c.session-item.is in
    rw p.1 (closings_stop c.args.log.now.pres c.args.log.now.entries c.args.log.now.seal c.args.sessions.now ts are
    c.loop-session.session-index c.session-item.result read c.loop-session-test.true (g.K.Sink.taken c.args.out.now) (g.K.Sink.taken c.loop-session.out)
    (g.K.Sink.taken c.put_session.new.out)
    (c.loop-session.invariant.text ts are) c.in_err-put_session.ensures.text)

pub loop-session-preserved : goal.loop-session-preserved
loop-session-preserved g c =
    let read = got c.args.sessions.now c.loop-session.session-index c.session-item.result c.loop-session-test.true c.session-item.is in
    record {
      text = λ ts are. closings_go_on c.args.log.now.pres c.args.log.now.entries c.args.log.now.seal
          c.args.sessions.now ts are c.loop-session.session-index c.session-item.result read c.loop-session-test.true (g.K.Sink.taken c.args.out.now)
          (g.K.Sink.taken c.loop-session.out) (g.K.Sink.taken c.put_session.new.out)
          (c.loop-session.invariant.text ts are) c.in_ok-put_session.ensures.text;
      told = all_more (HasClosings c.args.log.now.pres c.args.log.now.entries c.args.log.now.seal)
          c.args.sessions.now c.loop-session.session-index c.session-item.result c.loop-session-test.true c.session-item.is c.loop-session.invariant.told
          c.in_ok-put_session.ensures.told;
      later = omega (arith, c.loop-session.invariant.later, c.in_ok-put_session.ensures.counts);
    }

pub returns-clause-text : goal.returns-clause-text
returns-clause-text g c = λ ts are.
    closings_end c.args.log.now.pres c.args.log.now.entries c.args.log.now.seal c.args.sessions.now ts are
    c.loop-session.session-index (search rules) (g.K.Sink.taken c.args.out.now) (g.K.Sink.taken c.loop-session.out) (c.loop-session.invariant.text ts are)

pub returns-clause-told : goal.returns-clause-told
returns-clause-told g c = all_taken (HasClosings c.args.log.now.pres c.args.log.now.entries c.args.log.now.seal)
    c.args.sessions.now c.loop-session.session-index (search rules) c.loop-session.invariant.told
