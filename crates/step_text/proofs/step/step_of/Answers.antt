use Rattle.std.proofs.Common.{rules}
use Rattle.std.proofs.lemmas.Int.{to_z-of_z}
use mir.Val.{SFits}
use mir.Syntax.{w128}
use Rattle.presentation.proofs.WritingBack.{names_of}
use Rattle.step_text.proofs.StepTexts.{no_star, no_coefficient, no_sign, no_monomial, no_entry, step_read}
use Rattle.step_text.proofs.step.step_of.Goals as goal

pub returns-in_err-front : goal.returns-in_err-front
returns-in_err-front c = rw c.from_residual.ensures (no_star c.args.p.now.names c.args.text.now c.in_err-front.ensures.parts)

pub returns-in_err-q : goal.returns-in_err-q
returns-in_err-q c =
    rw c.from_residual-in_err-q.ensures (no_coefficient c.args.p.now.names c.args.text.now c.in_ok-front.front.now c.in_ok-front.rest.now
    c.in_ok-front.ensures.parts c.in_err-q.ensures)

pub returns-in_err-middle : goal.returns-in_err-middle
returns-in_err-middle c =
    rw c.from_residual-in_err-middle.ensures (no_sign c.args.p.now.names (names_of c.args.p.now c.known.ensures) c.args.text.now c.in_ok-front.front.now
    c.in_ok-front.rest.now c.in_ok-front.ensures.parts c.in_err-middle.ensures.parts)

pub returns-in_default : goal.returns-in_default
returns-in_default c =
    no_monomial c.args.p.now.names (names_of c.args.p.now c.known.ensures) c.args.text.now c.in_ok-front.front.now c.in_ok-front.rest.now
    c.in_ok-middle.middle.now c.in_ok-middle.last.now _ c.in_ok-front.ensures.parts c.in_ok-middle.ensures.parts c.in_default.ensures.reads
    c.in_default.ensures.no_memory_taken

pub returns-in_err-by : goal.returns-in_err-by
returns-in_err-by c =
    rw c.from_residual-in_err-by.ensures (no_entry c.args.p.now.names (names_of c.args.p.now c.known.ensures) c.args.text.now c.in_ok-front.front.now
    c.in_ok-front.rest.now c.in_ok-middle.middle.now c.in_ok-middle.last.now c.in_ok-front.ensures.parts c.in_ok-middle.ensures.parts c.in_err-by.ensures)

pub returns : goal.returns
returns c =
    let z = c.in_ok-q.q in
    let f : SFits w128 z = search rules in
    simp (to_z-of_z, f) (step_read c.args.p.now.names c.args.text.now c.in_ok-front.front.now c.in_ok-front.rest.now c.in_ok-middle.middle.now
    c.in_ok-middle.last.now z c.in-Ok.t c.in_ok-by.by c.in_ok-front.ensures.parts c.in_ok-middle.ensures.parts c.in_ok-q.ensures c.in-Ok.ensures.reads
    c.in_ok-by.ensures)
