-- What a run comes to.
use Rattle.std.specs.List.{AllByRecursion}
use Rattle.std.specs.Prelude.{◌≡◌, ◌≢◌, ℕ, ◌+◌, List, [], ◌++◌, slice_get, Option, Some, None, Ok}
use Rattle.presentation.specs.Presented.{Presented}
use Rattle.outcomes.specs.declared.ends.End.TheVariants.{Sealed}
use Rattle.session_text.specs.declared.question.Question.{Question}
use Rattle.pair_book.specs.declared.limits.Limits.{Limits}
use Rattle.session_core.specs.Questions.{CanBeAsked}
use Rattle.basis_entry.specs.Entries.{BasisEntry}
use Rattle.basis_entry.specs.Seals.{Seal}
use Rattle.session_core.specs.Sessions.{SessionState}
use Rattle.cert_checker.specs.Texts.{TellsWhole}
use Rattle.report_text.specs.Histories.{History}
use Rattle.report_text.specs.Reports.{Reported, IsReportable, IsHistoryOf, text_of}
use Rattle.report_acceptance.specs.Accepting.{told_amount}
use Rattle.legal_report.specs.Legal.{IsLegal, AreByAll}
use Rattle.legal_report.specs.Gathering.{AreAnsweredOn}
use Rattle.legal_report.specs.TrueAnswers.{IsAfterSeal, AreTrueAnswers}

-- The report is legal, and this is its history. What is answered is true, and exact by items that end with the seal.
-- The checker finds that all lines of the text hold, and counts its entries and proofs
pub record IsTrueReport (p : Presented) (limits : Limits) (questions : List (List Question)) (r : Reported)
    (h : History) : Type 0 where
  pub legal : IsLegal p limits questions r
  pub told : IsHistoryOf r h
  pub answers : AreTrueAnswers p (IsAfterSeal r) h
  pub checked : TellsWhole p (text_of r h) (Ok (told_amount r h))

-- the report can be written, and has a history, with which it is true
pub record IsConclusion (p : Presented) (limits : Limits) (questions : List (List Question))
    (r : Reported) : Type 0 where
  pub reportable : IsReportable r
  pub history : History
  pub is_true : IsTrueReport p limits questions r history

-- The report goes on from these items and sessions: its log begins with the entries, and nothing comes behind a seal.
-- The sessions keep their replies, and each question without one is answered by all items
pub record GoesOnFrom (p : Presented) (es : List BasisEntry) (seal : Option Seal) (ss : List SessionState)
    (r : Reported) : Type 0 where
  pub more : List BasisEntry
  pub entries : r.entries ≡ es ++ more
  pub sealed : seal ≢ None → (r.entries ≡ es) × (r.seal ≡ seal)
  pub answered : AreAnsweredOn p r.entries r.seal ss r.sessions

-- ---- a run that completes a log, and then answers all questions

-- a session with this number before its first reply
pub record IsNewSession (p : Presented) (least : ℕ) (n : ℕ) (s : SessionState) : Type 0 where
  pub number : s.number ≡ n
  pub base : s.base ≡ least
  pub kept : s.kept ≡ []
  pub questions : AllByRecursion (CanBeAsked p) s.questions

-- the sessions are numbered from 1
abbrev pub AreNewSessions : Presented → ℕ → List SessionState → Type 0
AreNewSessions p least ss = (i : ℕ) (s : SessionState) → slice_get ss i ≡ Some s → IsNewSession p least (i + 1) s

-- The report is legal, this is its history, and all replies are by all items. What is answered is true, and exact where
-- the log is sealed. The checker finds that all lines of the text hold, and counts its entries and proofs
pub record IsSolved (p : Presented) (limits : Limits) (questions : List (List Question)) (r : Reported)
    (h : History) : Type 0 where
  pub legal : IsLegal p limits questions r
  pub by_all : AllByRecursion (λ s. AreByAll r.entries r.seal s.kept) r.sessions
  pub told : IsHistoryOf r h
  pub answers : AreTrueAnswers p (λ a. r.end ≡ Sealed) h
  pub checked : TellsWhole p (text_of r h) (Ok (told_amount r h))

-- the report can be written, and has a history, with which it is solved
pub record IsSolution (p : Presented) (limits : Limits) (questions : List (List Question)) (r : Reported) : Type 0 where
  pub reportable : IsReportable r
  pub history : History
  pub solved : IsSolved p limits questions r history
