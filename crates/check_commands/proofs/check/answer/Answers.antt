use Rattle.std.proofs.Common.{◌≡◌, List, ℕ, Option, subst}
use Rattle.std.specs.Prelude.{IfSome}
use Rattle.mb_io.specs.Shelf.{CountRose}
use Rattle.presentation.specs.Reading.{presentation_text}
use Rattle.cert_checker.specs.Texts.{Answers}
use Rattle.cert_checker.specs.Truth.{IsTrueReport}
use Rattle.command_floor.specs.declared.TheConstants.{PRESENTATION_BYTES}
use Rattle.check_commands.specs.declared.TheConstants.{REPORT_BYTES}
use Rattle.command_floor.specs.Files.{in_lines, BytesLead}
use Rattle.check_commands.specs.Check.{ReportLeads}
use Rattle.command_floor.proofs.Leading.{gives_lead, bytes_lead}
use Rattle.check_commands.proofs.TrueReports.{found_true, asked_true}
use Rattle.check_commands.proofs.check.answer.Goals as goal

pub returns-clause-exact : goal.returns-clause-exact
returns-clause-exact g c =
    let counted : Type 0 = CountRose (g.S.Shelf.faults c.args.shelf.now) (g.S.Shelf.faults c.load.new.shelf) in
    let report : List ℕ = c.args.words.now.report.now in
    let told : Option (List ℕ) = g.S.Shelf.under c.args.shelf.now report in
    let loaded : IfSome told (λ bytes. c.in_ok-text.text.items ≡ bytes) =
    subst (λ (t : Option (List ℕ)). IfSome t (λ bytes. c.in_ok-text.text.items ≡ bytes)) (c.load_presentation.ensures.same report)
    c.in_ok-text.ensures.loaded.1 in
    let answers : Answers c.in_ok-p.p c.in_ok-text.text.items c.check-found.result =
    subst (λ (t : List ℕ). Answers c.in_ok-p.p t c.check-found.result) c.deref.ensures.value c.check-found.ensures.exact in
    gives_lead counted PRESENTATION_BYTES c.args.words.now.presentation.now (g.S.Shelf.under c.args.shelf.now c.args.words.now.presentation.now)
    (in_lines presentation_text)
    (λ p. BytesLead counted REPORT_BYTES report told (ReportLeads p)) c.in_ok-p.p c.in_ok-answer.answer c.in_ok-p.ensures.gives
    (bytes_lead counted REPORT_BYTES report told c.in_ok-text.text.items (ReportLeads c.in_ok-p.p) c.in_ok-answer.answer c.in_ok-text.ensures.loaded.0 loaded
    (c.check-found.result, answers, c.in_ok-answer.ensures.shows))

pub returns-clause-true_report : goal.returns-clause-true_report
returns-clause-true_report g c done =
    let report : List ℕ = c.args.words.now.report.now in
    let told : Option (List ℕ) = g.S.Shelf.under c.args.shelf.now report in
    let loaded : IfSome told (λ bytes. c.in_ok-text.text.items ≡ bytes) =
    subst (λ (t : Option (List ℕ)). IfSome t (λ bytes. c.in_ok-text.text.items ≡ bytes)) (c.load_presentation.ensures.same report)
    c.in_ok-text.ensures.loaded.1 in
    let held : IsTrueReport c.in_ok-p.p c.deref.result.now = found_true c.in_ok-p.p c.deref.result.now c.check-found.result (c.in_ok-answer.ensures.done done)
    c.check-found.ensures.sound in
    asked_true PRESENTATION_BYTES (g.S.Shelf.under c.args.shelf.now c.args.words.now.presentation.now) told c.in_ok-p.p c.in_ok-text.text.items
    c.in_ok-p.ensures.gives loaded (subst (IsTrueReport c.in_ok-p.p) c.deref.ensures.value held)
