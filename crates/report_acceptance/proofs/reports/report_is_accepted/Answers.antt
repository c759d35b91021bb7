use Rattle.report_text.specs.Reports.{reported}
use Rattle.report_acceptance.proofs.reports.report_is_accepted.Goals as goal

pub returns-clause-told : goal.returns-clause-told
returns-clause-told c = λ h is. c.written_reports_hold.ensures (reported c.args.r.now) h c.report_is_known.ensures c.requires is
