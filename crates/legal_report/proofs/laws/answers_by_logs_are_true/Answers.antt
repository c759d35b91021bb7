use Rattle.legal_report.proofs.TrueAnswers.{true_answers}
use Rattle.legal_report.proofs.laws.answers_by_logs_are_true.Goals as goal

pub returns : goal.returns
returns c = true_answers
