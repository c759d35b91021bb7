use Rattle.std.proofs.Common.{arith}
use Rattle.std.proofs.lemmas.Result.{err_from_is_err_and}
use Rattle.report_text.proofs.Loops.{session_starts, session_goes_on, session_stops, session_ends}
use Rattle.report_text.proofs.live.put_session_at.Goals as goal

pub loop-kept-init : goal.loop-kept-init
loop-kept-init g c = record {
  first = c.first_from-number.ensures.first;
  within = c.first_from-number.ensures.within;
  behind = c.first_from-number.ensures.behind;
  text = λ t are. session_starts c.args.log.now.pres c.args.log.now.entries c.args.log.now.seal c.args.session.now t
      are c.requires.replied.count c.args.front (g.K.Sink.taken c.args.out.now) c.first_from-number.result c.first_from-number.ensures.first
      c.first_from-number.ensures.before;
  later = omega arith;
}

pub returns-in_err-put_answer-clause-text : goal.returns-in_err-put_answer-clause-text
returns-in_err-put_answer-clause-text g c = λ t are.
    let p = err_from_is_err_and c.from_residual.result c.from_residual.ensures.1 in
    rw p.1 (session_stops c.args.log.now.pres c.args.log.now.entries c.args.log.now.seal c.args.session.now t are
    c.requires.replied.count c.args.front (g.K.Sink.taken c.args.out.now) (g.K.Sink.taken c.loop-kept.out) (g.K.Sink.taken c.put_answer.new.out)
    c.loop-kept.number c.loop-kept.invariant.first c.in-Some.kept c.in-Some.ensures.is.0 c.in-Some.ensures.is.1 (c.loop-kept.invariant.text t are)
    c.in_err-put_answer.ensures.text)

pub loop-kept-preserved : goal.loop-kept-preserved
loop-kept-preserved g c = record {
  first = omega arith;
  within = omega (arith, c.in-Some.ensures.is.2, c.requires.replied.count);
  behind = λ i k le is. c.loop-kept.invariant.behind i k (omega (arith, le)) is;
  text = λ t are. session_goes_on c.args.log.now.pres c.args.log.now.entries c.args.log.now.seal c.args.session.now t
      are c.requires.replied.count c.args.front (g.K.Sink.taken c.args.out.now) (g.K.Sink.taken c.loop-kept.out) (g.K.Sink.taken c.put_answer.new.out)
      c.loop-kept.number c.loop-kept.invariant.first c.in-Some.kept c.in-Some.ensures.is.0 c.in-Some.ensures.is.1 (c.loop-kept.invariant.text t are)
      c.in_ok-put_answer.ensures.text;
  later = omega (arith, c.loop-kept.invariant.later, c.in_ok-put_answer.ensures.counts);
}

pub returns-clause-text : goal.returns-clause-text
returns-clause-text g c = λ t are.
    session_ends c.args.log.now.pres c.args.log.now.entries c.args.log.now.seal c.args.session.now t are
    c.requires.replied.count c.args.front (g.K.Sink.taken c.args.out.now) (g.K.Sink.taken c.loop-kept.out) c.args.session.now.base c.loop-kept.number
    c.first_from-number.ensures.session.rising c.loop-kept.invariant.first c.loop-kept.invariant.behind c.in_default.ensures.is
    (c.loop-kept.invariant.text t are)
