use Rattle.legal_report.proofs.Accepted.{legal_holds}
use Rattle.legal_report.proofs.laws.texts_of_legal_reports_hold.Goals as goal

pub returns : goal.returns
returns c = legal_holds c.written_reports_hold.ensures
