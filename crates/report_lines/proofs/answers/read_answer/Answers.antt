use Rattle.std.proofs.Common.{◌≡◌, true, false, sym, ◌∙◌}
use Rattle.std.proofs.lemmas.Result.{err_from_is_err_and}
use Rattle.report_lines.proofs.AnswerTexts.{no_parts, no_question, verdict_fails, not_answered, answer_read}
use Rattle.report_lines.proofs.answers.read_answer.Goals as goal

pub returns-in_default : goal.returns-in_default
returns-in_default c = no_parts c.args.p.now c.known.ensures c.args.text.now c.in_default.ensures

pub returns-in_default-2 : goal.returns-in_default-2
returns-in_default-2 c = no_question c.args.p.now c.known.ensures c.args.text.now c.in-Some.front.now c.in-Some.rest.now c.in-Some.ensures
    (rw c.in_default-2.is at c.in_ok-question.ensures)

pub returns-in_err-verdict : goal.returns-in_err-verdict
returns-in_err-verdict c =
    let p = err_from_is_err_and c.from_residual-in_err-verdict.result c.from_residual-in_err-verdict.ensures.1 in
    rw (p.1, p.2) (verdict_fails c.args.p.now c.known.ensures c.args.text.now c.in-Some.front.now c.in-Some.rest.now c.in-Some.ensures
    c.in_err-verdict.field-0.0 c.in_err-verdict.ensures)

pub returns-then-not-may_answer : goal.returns-then-not-may_answer
returns-then-not-may_answer c =
    not_answered c.args.p.now c.known.ensures c.args.text.now c.in-Some.front.now c.in-Some.rest.now c.in-Some-2.question c.in_ok-verdict.verdict
    c.in-Some.ensures (rw c.in-Some-2.is at c.in_ok-question.ensures) c.in_ok-verdict.ensures
    (λ m. let yes = c.may_answer.ensures.1 m in let t : true ≡ false = sym yes ∙ c.if-not-may_answer.true in cc)

pub returns : goal.returns
returns c = answer_read c.args.p.now c.args.text.now c.in-Some.front.now c.in-Some.rest.now c.in-Some-2.question c.in_ok-verdict.verdict c.in-Some.ensures
    (rw c.in-Some-2.is at c.in_ok-question.ensures) c.in_ok-verdict.ensures (c.may_answer.ensures.0 c.if-not-may_answer.false)
