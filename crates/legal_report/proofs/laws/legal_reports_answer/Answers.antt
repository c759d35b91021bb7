use Rattle.legal_report.proofs.TrueAnswers.{legal_answers}
use Rattle.legal_report.proofs.laws.legal_reports_answer.Goals as goal

pub returns : goal.returns
returns c = legal_answers
