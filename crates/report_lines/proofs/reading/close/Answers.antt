use Rattle.std.proofs.lemmas.Result.{err_from_is_err_and}
use Rattle.report_lines.proofs.LineTexts.{no_close_session, no_close_number, close_answer_fails, close_read}
use Rattle.report_lines.proofs.reading.close.Goals as goal

pub returns-in_default : goal.returns-in_default
returns-in_default c = no_close_session c.args.p.now c.args.text.now c.in_default.ensures

pub returns-in_default-number_then : goal.returns-in_default-number_then
returns-in_default-number_then c = no_close_number c.args.p.now c.args.text.now c.in-Some.rest.now c.in-Some.session c.in-Some.ensures
    c.in_default-number_then.ensures

pub returns-in_err-question : goal.returns-in_err-question
returns-in_err-question c =
    let p = err_from_is_err_and c.from_residual.result c.from_residual.ensures.1 in
    rw (p.1, p.2) (close_answer_fails c.args.p.now c.args.text.now c.in-Some.rest.now c.in-Some-number_then.last.now c.in-Some.session
    c.in-Some-number_then.number c.in-Some.ensures c.in-Some-number_then.ensures c.in_err-question.field-0.0 c.in_err-question.ensures)

pub returns : goal.returns
returns c = close_read c.args.p.now c.args.text.now c.in-Some.rest.now c.in-Some-number_then.last.now c.in-Some.session c.in-Some-number_then.number
    c.in_ok-question.question c.in_ok-question.verdict c.in-Some.ensures c.in-Some-number_then.ensures c.in_ok-question.ensures
