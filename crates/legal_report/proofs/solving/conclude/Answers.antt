use Rattle.std.proofs.Common.{◌+◌, ◌<◌, ◌^◌, subst, sym, ap}
use Rattle.std.proofs.lemmas.Result.{IfOk-weaker}
use Rattle.std.specs.Arc.{arc_value}
use Rattle.presentation.specs.Presented.{Presented}
use Rattle.pair_book.specs.declared.limits.Limits.{Limits}
use Rattle.report_text.specs.Reports.{Reported, reported}
use Rattle.legal_report.specs.Legal.{IsLegal}
use Rattle.legal_report.specs.Gathering.{questions_of}
use Rattle.legal_report.specs.Solutions.{GoesOnFrom}
use Rattle.legal_report.proofs.Reportable.{reportable}
use Rattle.legal_report.proofs.solving.conclude.Goals as goal

pub of-requires : goal.of-requires
of-requires c =
    reportable (arc_value c.args.p.now) c.args.book.limits (questions_of c.args.sessions.items) (reported c.in_ok-report.report)
    c.in_ok-report.ensures.legal (subst (λ (l : Limits). l.entries + 1 < 2 ^ 32) (sym c.requires.limits) c.requires.few)

pub returns-clause-conclusion : goal.returns-clause-conclusion
returns-clause-conclusion c =
    let p : Presented = arc_value c.args.p.now in
    let legal : IsLegal p c.args.limits (questions_of c.args.sessions.items) (reported c.in_ok-report.report) =
    subst (λ (l : Limits). IsLegal p l (questions_of c.args.sessions.items) (reported c.in_ok-report.report)) c.requires.limits c.in_ok-report.ensures.legal in
    IfOk-weaker c.of.result _ _ (λ s is. is p c.args.limits (questions_of c.args.sessions.items) legal) c.of.ensures.conclusion

pub returns-clause-goes_on : goal.returns-clause-goes_on
returns-clause-goes_on c =
    let p : Presented = arc_value c.args.p.now in
    let begins = c.in_ok-report.ensures.begins in
    let on : GoesOnFrom p c.args.book.entries c.args.book.seal c.args.sessions.items (reported c.in_ok-report.report) =
    record { more = begins.0; entries = begins.1; sealed = c.in_ok-report.ensures.sealed; answered = c.in_ok-report.ensures.stand } in
    IfOk-weaker c.of.result _ _ (λ s same. subst (λ r. GoesOnFrom p c.args.book.entries c.args.book.seal c.args.sessions.items (reported r)) (sym same) on)
    c.of.ensures.same
