-- What the command `replay` answers.
use Rattle.std.specs.Prelude.{◌≡◌, ◌≤◌, ◌⊎◌, ℕ, List, [], ◌∷◌, length, Option, None, IfSome, Ok, option_map}
use Rattle.presentation.specs.Presented.{Presented}
use Rattle.session_text.specs.declared.question.Event.{Event}
use Rattle.session_text.specs.declared.question.Question.{Question}
use Rattle.session_text.specs.Schedule.{schedule_text}
use Rattle.pair_book.specs.declared.limits.Limits.{Limits}
use Rattle.session_core.specs.Sessions.{SessionState}
use Rattle.interleave_core.specs.Machine.{State}
use Rattle.interleave_core.specs.Opening.{IsOpened}
use Rattle.interleave_core.specs.Runs.{Run}
use Rattle.report_text.specs.Histories.{History}
use Rattle.report_text.specs.Reports.{Reported, IsReportable}
use Rattle.command_floor.specs.Answers.{Answer}
use Rattle.command_floor.specs.Files.{in_lines, FileFails}
use Rattle.command_floor.specs.Parsing.{GivenWords, shown}
use Rattle.legal_report.specs.Gathering.{questions_of}
use Rattle.legal_report.specs.Solutions.{AreNewSessions, IsTrueReport, GoesOnFrom}
use Rattle.solve_commands.specs.declared.replay.ReplayWords.{ReplayWords}
use Rattle.solve_commands.specs.declared.schedules.TheConstants.{SCHEDULE_BYTES}
use Rattle.solve_commands.specs.Found.{FitTable, ShowsReport, NothingReported}
use Rattle.solve_commands.specs.Limits.{limits_given}
use Rattle.solve_commands.specs.Presentations.{IsPresentedIn}
use Rattle.solve_commands.specs.SessionFiles.{SessionsFail, AreQuestionsUnder, session_names}

-- what `replay` is asked: limits, and the names of a presentation, of a schedule and of the sessions
pub record ReplayAsked : Type 0 where
  pub limits : Limits
  pub presentation : List ℕ
  pub schedule : List ℕ
  pub sessions : List (List ℕ)

abbrev pub replay_by : Limits → List (List ℕ) → Option ReplayAsked
replay_by limits [] = None
replay_by limits (p ∷ ws) = option_map (λ n. record {
  limits = limits;
  presentation = p;
  schedule = n.0;
  sessions = n.1;
}) (session_names ws)

-- what it is asked by what is given behind its name: a presentation, a schedule, and 1 to so many sessions
abbrev pub replay_in : GivenWords → Option ReplayAsked
replay_in g = replay_by (limits_given g.settings) g.words

-- what the code holds of it
abbrev pub replay_asked : ReplayWords → ReplayAsked
replay_asked w = record {
  limits = w.limits;
  presentation = w.presentation.now;
  schedule = w.schedule.now;
  sessions = shown w.sessions.items;
}

abbrev pub IsWithinTable : ReplayWords → Type 0
IsWithinTable w = FitTable w.limits (length w.sessions.items)

-- ---- what is reported

-- The machine was opened with sessions of these questions before their first reply, and the events have led it to this
-- state
pub record IsPlayed (p : Presented) (limits : Limits) (asked : List (List Question)) (events : List Event)
    (s : State) : Type 0 where
  pub sessions : List SessionState
  pub questions : questions_of sessions ≡ asked
  pub first : State
  pub opened : IsOpened p limits sessions first
  pub run : Run first events s

-- The report is true, and goes on from a state to which the schedule leads the machine: its items begin the report's,
-- and its replies are the live ones
pub record IsReplayed (p : Presented) (limits : Limits) (questions : List (List Question)) (events : List Event)
    (r : Reported) (h : History) : Type 0 where
  pub is_true : IsTrueReport p limits questions r h
  pub last : State
  pub played : IsPlayed p limits questions events last
  pub goes_on : GoesOnFrom p last.book.entries last.book.seal last.sessions r

-- the report can be written, and has a history, with which it is such a one
pub record IsReplay (p : Presented) (limits : Limits) (questions : List (List Question)) (events : List Event)
    (r : Reported) : Type 0 where
  pub reportable : IsReportable r
  pub history : History
  pub replayed : IsReplayed p limits questions events r history

-- ---- what the texts lead to

-- the text under this name is a schedule of these events for so many sessions, where the shelf tells that
abbrev pub IsScheduledIn : (List ℕ → Option (List ℕ)) → List ℕ → ℕ → List Event → Type 0
IsScheduledIn under name n events = IfSome (under name) (λ bytes. (length bytes ≤ SCHEDULE_BYTES)
    × (in_lines (schedule_text n) bytes ≡ Ok events))

-- the texts have these values, where the shelf tells them, and this is a report of the schedule's replay
pub record IsFound (under : List ℕ → Option (List ℕ)) (q : ReplayAsked) (r : Reported) (h : History) : Type 0 where
  pub p : Presented
  pub presented : IsPresentedIn under q.presentation p
  pub events : List Event
  pub scheduled : IsScheduledIn under q.schedule (length q.sessions) events
  pub questions : List (List Question)
  pub asked : AreQuestionsUnder under p q.sessions questions
  pub replayed : IsReplayed p q.limits questions events r h

-- the schedule's text has no value, or it has one, and one of the sessions' texts has none
abbrev pub ScheduleFails : Type 0 → (List ℕ → Option (List ℕ)) → ReplayAsked → Presented → Answer → Type 0
ScheduleFails counted under q p a =
    FileFails counted SCHEDULE_BYTES q.schedule (under q.schedule) (in_lines (schedule_text (length q.sessions))) a
    ⊎ ((events : List Event) × IsScheduledIn under q.schedule (length q.sessions) events
    × SessionsFail counted under p q.sessions a)

-- the answer that is due to `replay` over these texts; `counted` says that the shelf has counted a failure
abbrev pub ReplayLeads : Type 0 → (List ℕ → Option (List ℕ)) → ReplayAsked → Answer → Type 0
ReplayLeads counted under q a = ShowsReport (IsFound under q) a
    ⊎ NothingReported counted under q.presentation (ScheduleFails counted under q) a
