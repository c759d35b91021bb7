use Rattle.std.proofs.lemmas.Result.{err_from_is_err_and}
use Rattle.report_lines.proofs.LineTexts.{no_subject, steps_fail, proof_read}
use Rattle.report_lines.proofs.reading.proof.Goals as goal

pub returns-in_default : goal.returns-in_default
returns-in_default c = no_subject c.args.p.now c.args.text.now c.in_default.ensures

pub returns-in_err-steps : goal.returns-in_err-steps
returns-in_err-steps c =
    let p = err_from_is_err_and c.from_residual.result c.from_residual.ensures.1 in
    rw (p.1, p.2) (steps_fail c.args.p.now c.args.text.now c.in-Some.rest.now c.in-Some.subject c.in-Some.ensures c.in_err-steps.field-0.0
    c.in_err-steps.ensures)

pub returns : goal.returns
returns c = proof_read c.args.p.now c.args.text.now c.in-Some.rest.now c.in-Some.subject c.in_ok-steps.steps c.in-Some.ensures c.in_ok-steps.ensures
