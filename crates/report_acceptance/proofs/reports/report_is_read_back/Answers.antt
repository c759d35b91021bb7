use Rattle.report_acceptance.proofs.reports.report_is_read_back.Goals as goal

pub returns : goal.returns
returns c = λ h is. c.written_reports_are_read_back.ensures _ h c.report_is_known.ensures c.requires is
