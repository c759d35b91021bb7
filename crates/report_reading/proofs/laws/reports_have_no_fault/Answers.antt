use Rattle.report_reading.proofs.Excluding.{excluded}
use Rattle.report_reading.proofs.laws.reports_have_no_fault.Goals as goal

pub returns : goal.returns
returns c = excluded
