use Rattle.std.proofs.Common.{rules, ◌≡◌, ap, subst, List, None}
use Rattle.std.specs.Prelude.{Ok}
use Rattle.std.specs.Arc.{arc_value}
use Rattle.presentation.specs.Presented.{Presented}
use Rattle.session_text.specs.declared.question.Question.{Question}
use Rattle.session_text.specs.Reading.{session_text}
use Rattle.task_table.specs.declared.order.Order.TheVariants.{ByNumber}
use Rattle.pair_book.specs.declared.limits.Limits.{Limits}
use Rattle.report_text.specs.Reports.{Reported, reported}
use Rattle.solve_commands.specs.declared.limits.TheConstants.{ENTRIES}
use Rattle.legal_report.specs.Gathering.{questions_of}
use Rattle.solve_commands.specs.Limits.{limits_with}
use Rattle.legal_report.specs.Solutions.{IsSolution}
use Rattle.solve_commands.proofs.Generated.{summed}
use Rattle.solve_commands.proofs.generate.summarize.Goals as goal

pub returns-clause-exact : goal.returns-clause-exact
returns-clause-exact c =
    let p : Presented = c.in_ok-p.p in
    let qs : List Question = c.in_ok-questions.questions.items in
    let qss : List (List Question) = questions_of c.in_ok-sessions.sessions.items in
    let r : Reported = reported c.in_ok-solved.solved.report in
    let arc : arc_value c.in_ok-p-2.p ≡ p = search rules in
    let bounds : c.limits_with-limits.result ≡ limits_with ENTRIES None ByNumber = search rules in
    let read : session_text p c.args.session.now ≡ Ok qs = search rules in
    let solution : IsSolution p (limits_with ENTRIES None ByNumber) qss r =
    subst (λ (l : Limits). IsSolution p l qss r) bounds (subst (λ (x : Presented). IsSolution x c.limits_with-limits.result qss r) arc
    c.in_ok-solved.ensures.solution) in
    summed c.args.seed c.args.presentation.now c.args.session.now p qss qs r c.in_ok-answer.answer c.in_ok-p.ensures.gives read
    (ap questions_of c.in_ok-sessions.ensures) solution
    c.in_ok-answer.ensures
