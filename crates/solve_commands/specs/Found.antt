-- What a command that reports finds over its texts: those of a presentation and, behind it, of others.
use Rattle.std.specs.Prelude.{◌≡◌, ◌≢◌, ◌≤◌, ◌⊎◌, ℕ, List, length, Option, Result, Ok, Err}
use Rattle.std.specs.Arc.{arc_value}
use Rattle.presentation.specs.Presented.{Presented}
use Rattle.presentation.specs.Reading.{presentation_text}
use Rattle.session_text.specs.declared.question.Question.{Question}
use Rattle.pair_book.specs.Books.{IsOpened}
use Rattle.pair_book.specs.declared.limits.Limits.{Limits}
use Rattle.report_text.specs.Histories.{History}
use Rattle.report_text.specs.Reports.{Reported, text_of}
use Rattle.command_floor.specs.declared.answer.Halt.{Halt}
use Rattle.command_floor.specs.declared.answer.Halt.TheVariants.{Says, NoMemory}
use Rattle.command_floor.specs.declared.status.Status.TheVariants.{Done, Open}
use Rattle.command_floor.specs.declared.TheConstants.{PRESENTATION_BYTES}
use Rattle.command_floor.specs.Answers.{Answer}
use Rattle.command_floor.specs.Files.{in_lines, FileFails}
use Rattle.legal_report.specs.Gathering.{questions_of}
use Rattle.legal_report.specs.Solutions.{AreNewSessions}
use Rattle.solve_commands.specs.declared.begun.Begun.{Begun}
use Rattle.solve_commands.specs.declared.sessions.TheConstants.{SESSIONS}
use Rattle.solve_commands.specs.Limits.{AreInTable}
use Rattle.solve_commands.specs.Presentations.{IsPresentedIn}
use Rattle.solve_commands.specs.Runs.{ShowsSettled}
use Rattle.solve_commands.specs.SessionFiles.{SessionsFail, AreQuestionsUnder}

-- the limits are those that options can give, and there aren't too many sessions
pub record FitTable (l : Limits) (sessions : ℕ) : Type 0 where
  pub limits : AreInTable l
  pub few : sessions ≤ SESSIONS

-- the answer is the text of a report that is found so, and is done exactly where the report is settled
pub record ShowsReport (IsFound : Reported → History → Type 0) (a : Answer) : Type 0 where
  pub report : Reported
  pub history : History
  pub found : IsFound report history
  pub text : a.text ≡ text_of report history
  pub status : ShowsSettled history a.status

-- Nothing is reported: the presentation's text has no value, or it has one, and what is read behind it fails so
abbrev pub NothingReported : Type 0 → (List ℕ → Option (List ℕ)) → List ℕ → (Presented → Answer → Type 0) → Answer
    → Type 0
NothingReported counted under name fails a = (a.status ≢ Done) × (a.status ≢ Open) × (
    FileFails counted PRESENTATION_BYTES name (under name) (in_lines presentation_text) a
    ⊎ ((p : Presented) × IsPresentedIn under name p × fails p a))

-- ---- where sessions alone are read behind the presentation

-- the texts have these values, where the shelf tells them, and the report on them is such a one
pub record IsFoundOn (IsReport : Presented → List (List Question) → Reported → History → Type 0)
    (under : List ℕ → Option (List ℕ)) (presentation : List ℕ) (sessions : List (List ℕ)) (r : Reported)
    (h : History) : Type 0 where
  pub p : Presented
  pub presented : IsPresentedIn under presentation p
  pub questions : List (List Question)
  pub asked : AreQuestionsUnder under p sessions questions
  pub is : IsReport p questions r h

-- nothing is reported, since the presentation's text or that of a session has no value
abbrev pub NothingAsked : Type 0 → (List ℕ → Option (List ℕ)) → List ℕ → List (List ℕ) → Answer → Type 0
NothingAsked counted under presentation sessions a =
    NothingReported counted under presentation (λ p a. SessionsFail counted under p sessions a) a

-- The answer that is due where such a report on a presentation and sessions is asked for; `counted` says that the shelf
-- has counted a failure
abbrev pub SessionsLead : (Presented → List (List Question) → Reported → History → Type 0) → Type 0
    → (List ℕ → Option (List ℕ)) → List ℕ → List (List ℕ) → Answer → Type 0
SessionsLead IsReport counted under presentation sessions a =
    ShowsReport (IsFoundOn IsReport under presentation sessions) a
    ⊎ NothingAsked counted under presentation sessions a

-- A run over these texts can begin: the book of the presentation is opened, and the sessions have their questions, and
-- no reply yet
pub record HasBegun (under : List ℕ → Option (List ℕ)) (presentation : List ℕ) (sessions : List (List ℕ))
    (limits : Limits) (b : Begun) : Type 0 where
  pub presented : IsPresentedIn under presentation (arc_value b.p)
  pub asked : AreQuestionsUnder under (arc_value b.p) sessions (questions_of b.sessions.items)
  pub opened : IsOpened (arc_value b.p) limits b.book
  pub new : AreNewSessions (arc_value b.p) (length b.book.entries) b.sessions.items

-- what beginning a run answers: what it can begin with, or what is wrong with a text
abbrev pub Begins : Type 0 → (List ℕ → Option (List ℕ)) → List ℕ → List (List ℕ) → Limits → Result Begun Halt → Type 0
Begins counted under presentation sessions limits (Ok b) = HasBegun under presentation sessions limits b
Begins counted under presentation sessions limits (Err (Says a)) = NothingAsked counted under presentation sessions a
Begins counted under presentation sessions limits (Err NoMemory) = Unit {0}
