use Rattle.std.proofs.Common.{◌≡◌, ◌+◌, ◌∙◌, length, sym, refl, arith}
use Rattle.std.proofs.lemmas.Result.{err_from_is_err_and}
use Rattle.word_text.specs.Machine.{finding}
use Rattle.word_text.specs.Place.{capped}
use Rattle.derivation.proofs.Lines.{none_left, some_left}
use Rattle.session_text.specs.Reading.{session_text}
use Rattle.session_text.proofs.SessionLines.{line_more, line_last, line_refuses}
use Rattle.session_text.proofs.session.read_exactly.Goals as goal

pub loop-asked-init : goal.loop-asked-init
unfolding session_text
loop-asked-init c = record {
  so_far = rw c.new-asked.ensures refl;
  written = rw c.new-asked.ensures (λ k d lt. absurd (omega arith));
}

pub returns-in_err-read_line-clause-exact : goal.returns-in_err-read_line-clause-exact
returns-in_err-read_line-clause-exact c =
    let p = err_from_is_err_and c.from_residual.result c.from_residual.ensures.1 in
    rw (p.1, p.2) (line_refuses (finding c.args.p.now.names) c.loop-asked.number c.loop-asked.rest.now c.split_line.result.0.now
    (session_text c.args.p.now c.args.text.now) c.loop-asked.asked c.read_line.new.asked c.in_err-read_line.field-0.0
    c.split_line.ensures.line c.loop-asked.invariant.so_far c.in_err-read_line.ensures.exact)

pub returns-then-is_empty-clause-exact : goal.returns-then-is_empty-clause-exact
returns-then-is_empty-clause-exact c =
    rw c.into_questions.ensures.questions
    (line_last (finding c.args.p.now.names) c.loop-asked.number c.loop-asked.rest.now c.split_line.result.0.now c.split_line.result.1.now
    (session_text c.args.p.now c.args.text.now) c.loop-asked.asked c.read_line.new.asked
    c.split_line.ensures.line c.split_line.ensures.rest (none_left (length c.split_line.result.1.now) (sym c.is_empty.ensures ∙ c.if-is_empty.true))
    c.loop-asked.invariant.so_far c.in_ok-read_line.ensures.exact)

pub loop-asked-preserved : goal.loop-asked-preserved
loop-asked-preserved c =
    let next : c.saturating_add-number.result ≡ capped (c.loop-asked.number + 1) = c.saturating_add-number.ensures in
    record {
      so_far = rw (next, c.after_first-rest.ensures.rest)
          (line_more (finding c.args.p.now.names) c.loop-asked.number c.loop-asked.rest.now c.split_line.result.0.now c.split_line.result.1.now
          (session_text c.args.p.now c.args.text.now) c.loop-asked.asked c.read_line.new.asked
          c.split_line.ensures.line c.split_line.ensures.rest (some_left (length c.split_line.result.1.now) (sym c.is_empty.ensures ∙ c.if-is_empty.false))
          c.loop-asked.invariant.so_far c.in_ok-read_line.ensures.exact);
      written = c.in_ok-read_line.ensures.written c.loop-asked.invariant.written;
    }
