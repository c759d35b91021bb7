use Rattle.std.proofs.Common.{rules, List, subst}
use Rattle.std.specs.List.{AllByRecursion}
use Rattle.presentation.specs.Presented.{Presented, IsPresented}
use Rattle.session_core.specs.Sessions.{IsSession}
use Rattle.report_text.specs.Reports.{Reported, reported}
use Rattle.legal_report.proofs.Concluding.{conclusion}
use Rattle.legal_report.proofs.solving.Solved.of.Goals as goal

pub returns-clause-conclusion : goal.returns-clause-conclusion
returns-clause-conclusion c = λ p limits questions legal.
    let r : Reported = reported c.args.report in
    let known : IsPresented r.pres = search rules in
    let sources : AllByRecursion IsSession r.sessions = search rules in
    let found = c.in_ok-last.ensures.told in
    conclusion p limits questions r found.0 known sources c.answers_of_legal_reports_are_true.ensures c.requires legal found.1
    (c.report_is_accepted.ensures.told found.0 found.1)
