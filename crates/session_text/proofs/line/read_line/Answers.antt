use Rattle.std.proofs.Common.{◌∙◌, sym}
use Rattle.std.proofs.lemmas.Result.{err_from_is_err_and}
use Rattle.word_text.specs.Machine.{finding}
use Rattle.session_text.proofs.LineTurns.{blank, one_more, refused}
use Rattle.session_text.proofs.line.read_line.Goals as goal

pub returns-then-is_blank-clause-exact : goal.returns-then-is_blank-clause-exact
returns-then-is_blank-clause-exact c =
    blank (finding c.args.p.now.names) c.args.number c.args.asked.now c.args.line.now (sym c.is_blank.ensures ∙ c.if-is_blank.true)

pub returns-in_err-question-clause-exact : goal.returns-in_err-question-clause-exact
returns-in_err-question-clause-exact c =
    let p = err_from_is_err_and c.from_residual.result c.from_residual.ensures.1 in
    rw (p.1, p.2) (refused (finding c.args.p.now.names) c.args.number c.args.asked.now c.args.asked.now c.args.line.now c.in_err-question.field-0.0
    (sym c.is_blank.ensures ∙ c.if-is_blank.false) c.in_err-question.ensures.exact)

pub returns-clause-exact : goal.returns-clause-exact
returns-clause-exact c =
    rw c.in_ok-push.ensures (one_more (finding c.args.p.now.names) c.args.number c.args.asked.now c.args.line.now c.in_ok-question.question
    (sym c.is_blank.ensures ∙ c.if-is_blank.false) c.in_ok-question.ensures.exact)
