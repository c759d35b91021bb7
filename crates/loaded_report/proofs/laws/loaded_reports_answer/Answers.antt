use Rattle.loaded_report.proofs.TrueAnswers.{loaded_answers}
use Rattle.loaded_report.proofs.laws.loaded_reports_answer.Goals as goal

pub returns : goal.returns
returns c = loaded_answers
