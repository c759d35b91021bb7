use Rattle.std.proofs.Common.{rules, arith, ◌≤◌, ◌<◌, ◌+◌, List, length}
use Rattle.std.proofs.lemmas.Result.{err_from_is_err_and}
use Rattle.module_vec.specs.declared.places.Term.{Term}
use Rattle.session_text.specs.Questions.{subjects}
use Rattle.hom_check.specs.Shown.{IsShown}
use Rattle.hom_check.proofs.Fitting.{all_at}
use Rattle.basis_entry.specs.Items.{vectors_below}
use Rattle.report_text.proofs.Loops.{proofs_go_on, proofs_stop}
use Rattle.report_text.proofs.showing.put_all.Goals as goal

pub put_one-requires-clause-shown : goal.put_one-requires-clause-shown
put_one-requires-clause-shown g c =
    let b : List (List Term) = vectors_below c.args.log.now.entries c.args.front in
    let le : c.loop-place.place + 1 ≤ length (subjects c.args.q.now) = search rules in
    all_at (IsShown b) c.args.q.now (c.loop-place.place + 1) c.requires.shown (omega arith) le

pub returns-in_err-put_one-clause-text : goal.returns-in_err-put_one-clause-text
returns-in_err-put_one-clause-text g c = λ proofs are.
    let b : List (List Term) = vectors_below c.args.log.now.entries c.args.front in
    let p = err_from_is_err_and c.from_residual.result c.from_residual.ensures.1 in
    let lt : c.loop-place.place < length (subjects c.args.q.now) = search rules in
    rw p.1 (proofs_stop b c.args.q.now proofs are (g.K.Sink.taken c.args.out.now) (g.K.Sink.taken c.loop-place.out) (g.K.Sink.taken c.put_one.new.out)
    c.args.log.now.pres c.loop-place.place lt
    (c.loop-place.invariant.text proofs are) c.in_err-put_one.ensures.text)

pub loop-place-preserved : goal.loop-place-preserved
loop-place-preserved g c =
    let b : List (List Term) = vectors_below c.args.log.now.entries c.args.front in
    let lt : c.loop-place.place < length (subjects c.args.q.now) = search rules in
    record {
      text = λ proofs are. proofs_go_on b c.args.q.now proofs are (g.K.Sink.taken c.args.out.now) (g.K.Sink.taken c.loop-place.out)
          (g.K.Sink.taken c.put_one.new.out) c.args.log.now.pres c.loop-place.place lt
          (c.loop-place.invariant.text proofs are) c.in_ok-put_one.ensures.text;
      later = omega (arith, c.loop-place.invariant.later, c.in_ok-put_one.ensures.counts);
    }
