use Rattle.std.proofs.Common.{rules, arith, ◌≤◌, ◌<◌, length}
use Rattle.std.proofs.lemmas.Result.{err_from_is_err_and}
use Rattle.report_text.proofs.Loops.{read_within}
use Rattle.report_text.proofs.Telling.{closing_goes_on, closing_stops, closing_ends, told_more}
use Rattle.report_text.proofs.closing.put_session.Goals as goal

pub returns-in_err-put_if_open-clause-text : goal.returns-in_err-put_if_open-clause-text
returns-in_err-put_if_open-clause-text g c = λ t are.
    let p = err_from_is_err_and c.from_residual.result c.from_residual.ensures.1 in
    let lt : c.loop-place.place < length c.args.session.now.questions = search rules in
    rw p.1 (closing_stops c.args.log.now.pres c.args.log.now.entries c.args.log.now.seal c.args.session.now
    c.requires.replied t are c.loop-place.place lt (g.K.Sink.taken c.args.out.now) (g.K.Sink.taken c.loop-place.out) (c.loop-place.invariant.text t are)
    (g.K.Sink.taken c.put_if_open.new.out) c.in_err-put_if_open.ensures.text)

pub loop-place-preserved : goal.loop-place-preserved
loop-place-preserved g c =
    let lt : c.loop-place.place < length c.args.session.now.questions = search rules in
    record {
      text = λ t are. closing_goes_on c.args.log.now.pres c.args.log.now.entries c.args.log.now.seal
          c.args.session.now c.requires.replied t are c.loop-place.place lt (g.K.Sink.taken c.args.out.now) (g.K.Sink.taken c.loop-place.out)
          (c.loop-place.invariant.text t are)
          (g.K.Sink.taken c.put_if_open.new.out) c.in_ok-put_if_open.ensures.text;
      told = told_more c.args.log.now.pres c.args.log.now.entries c.args.log.now.seal c.args.session.now
          c.loop-place.place c.loop-place.invariant.told c.in_ok-put_if_open.ensures.told;
      later = omega (arith, c.loop-place.invariant.later, c.in_ok-put_if_open.ensures.counts);
    }

pub returns-clause-text : goal.returns-clause-text
returns-clause-text g c = λ t are.
    let le : length c.args.session.now.questions ≤ c.loop-place.place = search rules in
    closing_ends c.args.log.now.pres c.args.log.now.entries c.args.log.now.seal c.args.session.now c.requires.replied
    t are c.loop-place.place le (g.K.Sink.taken c.args.out.now) (g.K.Sink.taken c.loop-place.out) (c.loop-place.invariant.text t are)

pub returns-clause-told : goal.returns-clause-told
returns-clause-told g c = λ i q k question kept left.
    let le : length c.args.session.now.questions ≤ c.loop-place.place = search rules in
    let lt = read_within c.args.session.now.questions i q question in
    c.loop-place.invariant.told i q k (omega (arith, le, lt)) question kept left
