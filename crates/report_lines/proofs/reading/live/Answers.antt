use Rattle.std.proofs.lemmas.Result.{err_from_is_err_and}
use Rattle.report_lines.proofs.LineTexts.{no_live_session, no_live_number, no_live_front, live_answer_fails, live_read}
use Rattle.report_lines.proofs.reading.live.Goals as goal

pub returns-in_default : goal.returns-in_default
returns-in_default c = no_live_session c.args.p.now c.args.text.now c.in_default.ensures

pub returns-in_default-number_then : goal.returns-in_default-number_then
returns-in_default-number_then c = no_live_number c.args.p.now c.args.text.now c.in-Some.rest.now c.in-Some.session c.in-Some.ensures
    c.in_default-number_then.ensures

pub returns-in_default-number_then-2 : goal.returns-in_default-number_then-2
returns-in_default-number_then-2 c = no_live_front c.args.p.now c.args.text.now c.in-Some.rest.now c.in-Some-number_then.more.now c.in-Some.session
    c.in-Some-number_then.number c.in-Some.ensures c.in-Some-number_then.ensures c.in_default-number_then-2.ensures

pub returns-in_err-question : goal.returns-in_err-question
returns-in_err-question c =
    let p = err_from_is_err_and c.from_residual.result c.from_residual.ensures.1 in
    rw (p.1, p.2) (live_answer_fails c.args.p.now c.args.text.now c.in-Some.rest.now c.in-Some-number_then.more.now c.in-Some-number_then-2.last.now
    c.in-Some.session c.in-Some-number_then.number c.in-Some-number_then-2.front c.in-Some.ensures c.in-Some-number_then.ensures
    c.in-Some-number_then-2.ensures c.in_err-question.field-0.0 c.in_err-question.ensures)

pub returns : goal.returns
returns c = live_read c.args.p.now c.args.text.now c.in-Some.rest.now c.in-Some-number_then.more.now c.in-Some-number_then-2.last.now c.in-Some.session
    c.in-Some-number_then.number c.in-Some-number_then-2.front c.in_ok-question.question c.in_ok-question.verdict c.in-Some.ensures
    c.in-Some-number_then.ensures
    c.in-Some-number_then-2.ensures c.in_ok-question.ensures
