use Rattle.std.proofs.Common.{◌≡◌, ◌+◌, ◌∙◌, List, length, Ok, sym, ap, arith}
use Rattle.std.proofs.lemmas.Result.{err_from_is_err_and}
use Rattle.word_text.specs.Machine.{finding}
use Rattle.word_text.specs.Place.{capped}
use Rattle.derivation.specs.declared.moves.Move.{Move}
use Rattle.derivation.specs.Reading.{derivation_text}
use Rattle.derivation.proofs.Lines.{from_here, fronted-none, line_more, line_last, line_refuses, none_left, some_left}
use Rattle.derivation.proofs.reading.read_exactly.Goals as goal

pub loop-moves-init : goal.loop-moves-init
unfolding derivation_text
loop-moves-init c = record {
  so_far = rw c.new-moves.ensures.items (fronted-none (from_here (finding c.args.p.now.names) 1 c.args.text.now));
  over = rw c.new-moves.ensures.items (λ k d lt. absurd (omega arith));
}

pub returns-in_err-read_line-clause-exact : goal.returns-in_err-read_line-clause-exact
returns-in_err-read_line-clause-exact c =
    let p = err_from_is_err_and c.from_residual.result c.from_residual.ensures.1 in
    rw (p.1, p.2) (line_refuses (finding c.args.p.now.names) c.loop-moves.number c.loop-moves.rest.now c.split_line.result.0.now
    (derivation_text c.args.p.now c.args.text.now) c.loop-moves.moves.items c.read_line.new.moves.items c.in_err-read_line.field-0.0
    c.split_line.ensures.line c.loop-moves.invariant.so_far c.in_err-read_line.ensures.exact)

pub returns-then-is_empty-clause-exact : goal.returns-then-is_empty-clause-exact
returns-then-is_empty-clause-exact c =
    let read = c.in_ok-read_line.ensures.exact in
    line_last (finding c.args.p.now.names) c.loop-moves.number c.loop-moves.rest.now c.split_line.result.0.now c.split_line.result.1.now
    (derivation_text c.args.p.now c.args.text.now) c.loop-moves.moves.items read.0
    c.split_line.ensures.line c.split_line.ensures.rest (none_left (length c.split_line.result.1.now) (sym c.is_empty.ensures ∙ c.if-is_empty.true))
    c.loop-moves.invariant.so_far read.1
    ∙ ap (λ (l : List Move). Ok l) (sym read.2)

pub loop-moves-preserved : goal.loop-moves-preserved
loop-moves-preserved c =
    let read = c.in_ok-read_line.ensures.exact in
    let next : c.saturating_add-number.result ≡ capped (c.loop-moves.number + 1) = c.saturating_add-number.ensures in
    record {
      so_far = rw (read.2, next, c.after_first-rest.ensures.rest)
          (line_more (finding c.args.p.now.names) c.loop-moves.number c.loop-moves.rest.now c.split_line.result.0.now c.split_line.result.1.now
          (derivation_text c.args.p.now c.args.text.now) c.loop-moves.moves.items read.0
          c.split_line.ensures.line c.split_line.ensures.rest (some_left (length c.split_line.result.1.now) (sym c.is_empty.ensures ∙ c.if-is_empty.false))
          c.loop-moves.invariant.so_far read.1);
      over = c.in_ok-read_line.ensures.over c.loop-moves.invariant.over;
    }
