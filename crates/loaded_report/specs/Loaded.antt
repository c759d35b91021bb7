-- Reports by a basis that was read.
use Rattle.std.specs.List.{AllByRecursion}
use Rattle.std.specs.Prelude.{◌≡◌, ℕ, ◌+◌, List, length, slice_get, Some, Ok}
use Rattle.presentation.specs.Presented.{Presented}
use Rattle.outcomes.specs.declared.ends.End.TheVariants.{Sealed}
use Rattle.session_text.specs.declared.question.Question.{Question}
use Rattle.basis_entry.specs.Entries.{BasisEntry, vectors_of}
use Rattle.basis_entry.specs.Seals.{IsStrongBasis}
use Rattle.session_core.specs.Sessions.{SessionState}
use Rattle.cert_checker.specs.Texts.{TellsWhole}
use Rattle.report_text.specs.Histories.{History}
use Rattle.report_text.specs.Reports.{Reported, IsReportable, IsHistoryOf, text_of}
use Rattle.report_acceptance.specs.Accepting.{told_amount}
use Rattle.saved_basis.specs.Files.{IsSaved}
use Rattle.legal_report.specs.Legal.{IsLegalSession, AreByAll}
use Rattle.legal_report.specs.Seats.{IsBaseCount}
use Rattle.legal_report.specs.Solutions.{AreNewSessions}
use Rattle.legal_report.specs.TrueAnswers.{AreTrueAnswers}

-- A report over the presentation and the sessions' questions is legal as one by a basis that was read. Its log needn't
-- be lawful: the entries may be saved, within the limits of every basis file, and are a strong basis, which is sealed.
-- Each question has its reply.
pub record IsLegalLoaded (p : Presented) (questions : List (List Question)) (r : Reported) : Type 0 where
  pub pres : r.pres ≡ p
  pub saved : IsSaved p r.entries
  pub end : r.end ≡ Sealed
  pub strong : IsStrongBasis p (vectors_of r.entries)
  pub seal : r.seal ≡ Some (record { source = p; entries = r.entries })
  pub count : length r.sessions ≡ length questions
  pub sessions : (i : ℕ) (qs : List Question) (s : SessionState) → slice_get questions i ≡ Some qs
      → slice_get r.sessions i ≡ Some s
      → IsLegalSession p saved.base r.entries r.seal (i + 1) qs s

-- The report is by these entries and legal so, this is its history, and all replies are by all items. What is answered
-- is true and exact. The checker finds that all lines of the text hold, and counts its entries and proofs
pub record IsAnsweredBy (p : Presented) (es : List BasisEntry) (questions : List (List Question)) (r : Reported)
    (h : History) : Type 0 where
  pub legal : IsLegalLoaded p questions r
  pub entries : r.entries ≡ es
  pub by_all : AllByRecursion (λ s. AreByAll r.entries r.seal s.kept) r.sessions
  pub told : IsHistoryOf r h
  pub answers : AreTrueAnswers p (λ a. Unit {0}) h
  pub checked : TellsWhole p (text_of r h) (Ok (told_amount r h))

-- the report can be written, and has a history, with which it is such a one
pub record IsLoadedSolution (p : Presented) (es : List BasisEntry) (questions : List (List Question))
    (r : Reported) : Type 0 where
  pub reportable : IsReportable r
  pub history : History
  pub answered : IsAnsweredBy p es questions r history

-- sessions numbered from 1 before their first reply, whose fronts will be at least the number of generator entries
pub record AreUnasked (p : Presented) (ss : List SessionState) : Type 0 where
  pub least : ℕ
  pub count : IsBaseCount p least
  pub new : AreNewSessions p least ss
