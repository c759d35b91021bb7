-- A legal report by a basis that was read answers by its log.
use Rattle.std.proofs.Common.{◌≡◌, List, sym, ap, ◌∙◌}
use Rattle.presentation.specs.Presented.{Presented}
use Rattle.session_text.specs.declared.question.Question.{Question}
use Rattle.report_text.specs.Reports.{Reported}
use Rattle.legal_report.specs.Legal.{seal_at}
use Rattle.legal_report.specs.Answering.{IsAnswering}
use Rattle.loaded_report.specs.Loaded.{IsLegalLoaded}

pub loaded_answers : (p : Presented) (questions : List (List Question)) (r : Reported) → IsLegalLoaded p questions r → IsAnswering p questions r
loaded_answers p questions r is = record {
  pres = is.pres;
  base = is.saved.base;
  source = is.saved.log.source;
  entries = is.saved.entries;
  strong = λ e. is.strong;
  seal = is.seal ∙ sym (ap (seal_at p r.entries) is.end);
  count = is.count;
  sessions = is.sessions;
}
