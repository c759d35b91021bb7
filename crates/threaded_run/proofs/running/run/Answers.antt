use Rattle.std.proofs.Common.{rules, ◌≡◌, ◌+◌, ◌<◌, ◌^◌, List, length, sym, ap, subst, ◌∙◌, arith}
use Rattle.std.proofs.lemmas.Result.{IfOk-weaker}
use Rattle.std.specs.Arc.{arc_value}
use Rattle.presentation.specs.Presented.{Presented}
use Rattle.session_text.specs.declared.question.Question.{Question}
use Rattle.basis_entry.specs.Entries.{BasisEntry}
use Rattle.completion_workers.specs.declared.actors.Actor.{Actor}
use Rattle.completion_workers.specs.Acting.{HaveActed}
use Rattle.report_text.specs.Reports.{reported}
use Rattle.legal_report.specs.Legal.{IsLegal}
use Rattle.legal_report.specs.Gathering.{questions_of}
use Rattle.legal_report.specs.Seats.{Seated, sessions_of, AreActors}
use Rattle.legal_report.specs.Solutions.{AreNewSessions}
use Rattle.legal_report.proofs.Reportable.{reportable}
use Rattle.threaded_run.specs.Parts.{seated_in}
use Rattle.threaded_run.proofs.Bases.{base_count}
use Rattle.threaded_run.proofs.Acted.{given_back, can_be_gathered, questions_stay}
use Rattle.threaded_run.proofs.running.run.Goals as goal

pub cast-requires-clause-sessions : goal.cast-requires-clause-sessions
cast-requires-clause-sessions g c =
    subst (λ (es : List BasisEntry). AreNewSessions (arc_value c.args.p.now) (length es) c.args.sessions.items) (sym c.in_ok-row.ensures.base)
    c.requires.sessions

pub gather-requires-clause-actors : goal.gather-requires-clause-actors
gather-requires-clause-actors g c =
    let p : Presented = arc_value c.args.p.now in
    let olds : List Actor = c.in_ok-actors.actors.items in
    let news : List Actor = c.run_actors.new.actors in
    let lent : c.deref_mut.result.now ≡ olds = c.deref_mut.ensures.value in
    let acted : HaveActed p olds news = subst (λ (xs : List Actor). HaveActed p xs news) lent c.run_actors.ensures in
    let many : length news ≡ length olds = search (rules, lent) in
    let len : c.in_ok-actors.actors.len ≡ length news = search (rules, lent, many) in
    let are : c.in_ok-seated.field-0.items ≡ seated_in news = c.in_ok-seated.ensures ∙ ap seated_in (given_back c.in_ok-actors.actors.len news _ len) in
    subst (AreActors p c.args.limits c.into_inner.result) (sym are)
    (can_be_gathered p c.args.limits c.into_inner.result (length c.args.book.entries) c.args.workers c.args.sessions.items olds news
    (base_count p c.args.book.entries c.requires.opened.base) c.requires.sessions c.in_ok-actors.ensures acted many)

pub of-requires : goal.of-requires
of-requires g c =
    let few : c.args.limits.entries + 1 < 2 ^ 32 = omega (arith, c.requires.most) in
    reportable (arc_value c.args.p.now) c.args.limits (questions_of (sessions_of c.in_ok-seated.field-0.items)) (reported c.in_ok-report.report)
    c.in_ok-report.ensures.legal few

pub returns-clause-conclusion : goal.returns-clause-conclusion
returns-clause-conclusion g c =
    let p : Presented = arc_value c.args.p.now in
    let olds : List Actor = c.in_ok-actors.actors.items in
    let news : List Actor = c.run_actors.new.actors in
    let lent : c.deref_mut.result.now ≡ olds = c.deref_mut.ensures.value in
    let acted : HaveActed p olds news = subst (λ (xs : List Actor). HaveActed p xs news) lent c.run_actors.ensures in
    let many : length news ≡ length olds = search (rules, lent) in
    let len : c.in_ok-actors.actors.len ≡ length news = search (rules, lent, many) in
    let are : c.in_ok-seated.field-0.items ≡ seated_in news = c.in_ok-seated.ensures ∙ ap seated_in (given_back c.in_ok-actors.actors.len news _ len) in
    let same : questions_of (sessions_of c.in_ok-seated.field-0.items) ≡ questions_of c.args.sessions.items =
    ap (λ (xs : List Seated). questions_of (sessions_of xs)) are
    ∙ questions_stay p c.args.workers c.args.sessions.items olds news c.in_ok-actors.ensures acted many in
    let legal : IsLegal p c.args.limits (questions_of c.args.sessions.items) (reported c.in_ok-report.report) =
    subst (λ (qs : List (List Question)). IsLegal p c.args.limits qs (reported c.in_ok-report.report)) same c.in_ok-report.ensures.legal in
    IfOk-weaker c.of.result _ _ (λ s is. is p c.args.limits (questions_of c.args.sessions.items) legal) c.of.ensures.conclusion
