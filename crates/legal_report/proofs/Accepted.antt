-- The texts of legal reports hold.
use Rattle.std.proofs.Common.{◌≡◌, ◌+◌, ◌<◌, ◌^◌, List, subst}
use Rattle.std.specs.Prelude.{Ok}
use Rattle.presentation.specs.Presented.{Presented}
use Rattle.session_text.specs.declared.question.Question.{Question}
use Rattle.pair_book.specs.declared.limits.Limits.{Limits}
use Rattle.report_text.specs.Histories.{History}
use Rattle.report_text.specs.Reports.{Reported, IsReportable, IsHistoryOf, text_of}
use Rattle.cert_checker.specs.Texts.{TellsWhole}
use Rattle.report_acceptance.specs.Accepting.{IsKnown, told_amount}
use Rattle.legal_report.specs.Legal.{IsLegal}
use Rattle.legal_report.proofs.Reportable.{reportable}

-- the checker finds that all lines of the text hold
pub holds_over : (p : Presented) (r : Reported) (h : History) → r.pres ≡ p → TellsWhole r.pres (text_of r h) (Ok (told_amount r h))
    → TellsWhole p (text_of r h) (Ok (told_amount r h))
holds_over p r h pres tells = subst (λ (x : Presented). TellsWhole x (text_of r h) (Ok (told_amount r h))) pres tells

pub legal_holds : ((r : Reported) (h : History) → IsKnown r → IsReportable r → IsHistoryOf r h → TellsWhole r.pres (text_of r h) (Ok (told_amount r h)))
    → (p : Presented) (limits : Limits) (questions : List (List Question)) (r : Reported) (h : History) → IsKnown r → limits.entries + 1 < 2 ^ 32
    → IsLegal p limits questions r → IsHistoryOf r h
    → TellsWhole p (text_of r h) (Ok (told_amount r h))
legal_holds law p limits questions r h known few legal is = holds_over p r h legal.pres (law r h known (reportable p limits questions r legal few) is)
