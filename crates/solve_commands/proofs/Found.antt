-- From what a run begins with to the report that its command finds.
use Rattle.std.proofs.Common.{◌≡◌, inl, inr, ℕ, List, Option, refl}
use Rattle.std.specs.Prelude.{Err}
use Rattle.std.specs.Arc.{arc_value}
use Rattle.presentation.specs.Presented.{Presented}
use Rattle.presentation.specs.Reading.{presentation_text}
use Rattle.session_text.specs.declared.question.Question.{Question}
use Rattle.pair_book.specs.declared.limits.Limits.{Limits}
use Rattle.report_text.specs.Histories.{History}
use Rattle.report_text.specs.Reports.{Reported, IsReportable, IsHistoryOf, reported}
use Rattle.command_floor.specs.declared.TheConstants.{PRESENTATION_BYTES}
use Rattle.command_floor.specs.declared.answer.Halt.{Halt}
use Rattle.command_floor.specs.declared.answer.Halt.TheVariants.{Says, NoMemory}
use Rattle.command_floor.specs.Answers.{Answer}
use Rattle.command_floor.specs.Files.{in_lines, FileGives, HasCause}
use Rattle.legal_report.specs.declared.solving.Solved.{Solved}
use Rattle.legal_report.specs.Gathering.{questions_of}
use Rattle.legal_report.specs.Last.{AreLastKinds}
use Rattle.legal_report.specs.Solutions.{IsSolved, IsSolution, IsTrueReport, IsConclusion}
use Rattle.solve_commands.specs.declared.begun.Begun.{Begun}
use Rattle.solve_commands.specs.Found.{NothingReported, NothingAsked, SessionsLead, HasBegun, Begins}
use Rattle.solve_commands.specs.Presentations.{IsPresentedIn}
use Rattle.solve_commands.specs.Run.{RunAsked, RunLeads}
use Rattle.solve_commands.specs.Runs.{IsDue, GivesReport}
use Rattle.solve_commands.specs.SessionFiles.{AreQuestionsUnder, SessionsGive}
use Rattle.solve_commands.specs.Solo.{SoloAsked, SoloLeads}
use Rattle.solve_commands.proofs.SessionFiles.{fail_same}

-- ---- what is wrong with a text

-- where the presentation's text has no value, whatever may be due where it has one
pub not_presented : (counted : Type 0) (under : List ℕ → Option (List ℕ)) (name : List ℕ) (fails : Presented → Answer → Type 0) (a : Answer)
    → HasCause counted (Says a)
    → FileGives (λ (p : Presented). p) counted PRESENTATION_BYTES name (under name) (in_lines presentation_text) (Err (Says a))
    → NothingReported counted under name fails a
not_presented counted under name fails a cause wrong = (cause.0, cause.1, inl wrong)

pub begins_not : (counted : Type 0) (under : List ℕ → Option (List ℕ)) (presentation : List ℕ) (sessions : List (List ℕ)) (limits : Limits) (halt : Halt)
    → HasCause counted halt
    → FileGives (λ (p : Presented). p) counted PRESENTATION_BYTES presentation (under presentation) (in_lines presentation_text) (Err halt)
    → Begins counted under presentation sessions limits (Err halt)
begins_not counted under presentation sessions limits (Says a) cause wrong = (cause.0, cause.1, inl wrong)
begins_not counted under presentation sessions limits NoMemory cause wrong = tt

-- and where a session's text has none
pub halted : (counted later : Type 0) → (counted → later) → (u v : List ℕ → Option (List ℕ)) → ((n : List ℕ) → u n ≡ v n)
    → (presentation : List ℕ) (sessions : List (List ℕ)) (limits : Limits) (p : Presented) → IsPresentedIn v presentation p
    → (halt : Halt) → HasCause counted halt → SessionsGive counted u p sessions (Err halt) → Begins later v presentation sessions limits (Err halt)
halted counted later on u v same presentation sessions limits p presented (Says a) cause fail =
    (cause.0, cause.1, inr (p, presented, fail_same u v same counted later on p sessions a fail))
halted counted later on u v same presentation sessions limits p presented NoMemory cause fail = tt

-- a command whose run can't begin answers what is wrong
pub no_report : (IsReport : Presented → List (List Question) → Reported → History → Type 0) (counted : Type 0) (under : List ℕ → Option (List ℕ))
    (presentation : List ℕ) (sessions : List (List ℕ)) (limits : Limits) (halt : Halt) → Begins counted under presentation sessions limits (Err halt)
    → GivesReport (SessionsLead IsReport counted under presentation sessions) (Err halt)
no_report IsReport counted under presentation sessions limits (Says a) wrong = inr wrong
no_report IsReport counted under presentation sessions limits NoMemory wrong = tt

-- ---- a report on the questions of the texts is due

module _ (IsReport : Presented → List (List Question) → Reported → History → Type 0) (counted : Type 0) (under : List ℕ → Option (List ℕ))
    (presentation : List ℕ) (sessions : List (List ℕ)) (limits : Limits) (b : Begun) (begun : HasBegun under presentation sessions limits b) (s : Solved)
    (h : History) where
  report_due : IsReportable (reported s.report) → AreLastKinds (reported s.report) s.last.items → IsHistoryOf (reported s.report) h
      → IsReport (arc_value b.p) (questions_of b.sessions.items) (reported s.report) h → IsDue (SessionsLead IsReport counted under presentation sessions) s
  report_due reportable last told is =
      record {
        reportable = reportable;
        last = last;
        history = h;
        told = told;
        shows = λ status settled. inl (record {
          report = reported s.report;
          history = h;
          found = record {
            p = arc_value b.p;
            presented = begun.presented;
            questions = questions_of b.sessions.items;
            asked = begun.asked;
            is = is;
          };
          text = refl;
          status = settled;
        });
      }

pub solved_due : (counted : Type 0) (under : List ℕ → Option (List ℕ)) (q : SoloAsked) (b : Begun) (s : Solved)
    → HasBegun under q.presentation q.sessions q.limits b
    → IsSolution (arc_value b.p) q.limits (questions_of b.sessions.items) (reported s.report) → AreLastKinds (reported s.report) s.last.items
    → IsDue (SoloLeads counted under q) s
solved_due counted under q b s begun solution last =
    report_due (λ p questions. IsSolved p q.limits questions) counted under q.presentation q.sessions q.limits b begun s solution.history solution.reportable
    last solution.solved.told solution.solved

pub run_due : (counted : Type 0) (under : List ℕ → Option (List ℕ)) (q : RunAsked) (b : Begun) (s : Solved)
    → HasBegun under q.presentation q.sessions q.limits b
    → IsConclusion (arc_value b.p) q.limits (questions_of b.sessions.items) (reported s.report) → AreLastKinds (reported s.report) s.last.items
    → IsDue (RunLeads counted under q) s
run_due counted under q b s begun conclusion last =
    report_due (λ p questions. IsTrueReport p q.limits questions) counted under q.presentation q.sessions q.limits b begun s conclusion.history
    conclusion.reportable last conclusion.is_true.told conclusion.is_true
