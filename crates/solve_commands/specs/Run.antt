-- What the command `run` answers.
use Rattle.std.specs.Prelude.{ℕ, List, length, Option, option_map, unwrap_or}
use Rattle.pair_book.specs.declared.limits.Limits.{Limits}
use Rattle.command_floor.specs.Answers.{Answer}
use Rattle.command_floor.specs.Parsing.{GivenWords, shown}
use Rattle.legal_report.specs.Solutions.{IsTrueReport}
use Rattle.solve_commands.specs.declared.run.RunWords.{RunWords}
use Rattle.solve_commands.specs.declared.run.TheConstants.{WORKERS}
use Rattle.solve_commands.specs.Found.{FitTable, SessionsLead}
use Rattle.solve_commands.specs.Limits.{limits_given}
use Rattle.solve_commands.specs.SessionFiles.{session_names}

-- what `run` is asked: a number of workers, limits, and the names of a presentation and of the sessions
pub record RunAsked : Type 0 where
  pub workers : ℕ
  pub limits : Limits
  pub presentation : List ℕ
  pub sessions : List (List ℕ)

-- what it is asked by what is given behind its name: a presentation, and 1 to so many sessions
abbrev pub run_in : GivenWords → Option RunAsked
run_in g = option_map (λ n. record {
  workers = unwrap_or g.settings.workers WORKERS;
  limits = limits_given g.settings;
  presentation = n.0;
  sessions = n.1;
}) (session_names g.words)

-- what the code holds of it
abbrev pub run_asked : RunWords → RunAsked
run_asked w = record {
  workers = w.workers;
  limits = w.limits;
  presentation = w.presentation.now;
  sessions = shown w.sessions.items;
}

abbrev pub IsWithinTable : RunWords → Type 0
IsWithinTable w = FitTable w.limits (length w.sessions.items)

-- The answer that is due to `run` over these texts; `counted` says that the shelf has counted a failure. However the
-- threads take their turns, the report is true: it is legal over the questions of the sessions, so within a session no
-- front falls, and each reply is the verdict by the items below its front; what is answered is true, and exact by items
-- that end with the seal.
abbrev pub RunLeads : Type 0 → (List ℕ → Option (List ℕ)) → RunAsked → Answer → Type 0
RunLeads counted under q a =
    SessionsLead (λ p questions. IsTrueReport p q.limits questions) counted under q.presentation q.sessions a
