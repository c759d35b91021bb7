use Rattle.report_text.specs.Reports.{reported}
use Rattle.report_acceptance.proofs.reports.trimming_is_accepted.Goals as goal

pub returns-clause-answered : goal.returns-clause-answered
returns-clause-answered c = λ h is t trims text says found answers.
    c.trimmed_reports_are_accepted.ensures (reported c.args.r.now) h c.report_is_known.ensures c.requires is t trims text says found answers

pub returns-clause-told : goal.returns-clause-told
returns-clause-told c = λ h is t trims text says.
    c.trimmed_reports_hold.ensures (reported c.args.r.now) h c.report_is_known.ensures c.requires is t trims text says
