use Rattle.report_acceptance.proofs.Whole.{says_history}
use Rattle.report_acceptance.proofs.laws.written_reports_say.Goals as goal

pub returns : goal.returns
returns c = says_history
