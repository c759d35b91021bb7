use Rattle.legal_report.proofs.TrueAnswers.{legal_truth}
use Rattle.legal_report.proofs.laws.answers_of_legal_reports_are_true.Goals as goal

pub returns : goal.returns
returns c = legal_truth
