-- What the command `solo` answers.
use Rattle.std.specs.Prelude.{ℕ, List, length, Option, option_map}
use Rattle.pair_book.specs.declared.limits.Limits.{Limits}
use Rattle.command_floor.specs.Answers.{Answer}
use Rattle.command_floor.specs.Parsing.{GivenWords, shown}
use Rattle.legal_report.specs.Solutions.{IsSolved}
use Rattle.solve_commands.specs.declared.solo.SoloWords.{SoloWords}
use Rattle.solve_commands.specs.Found.{FitTable, SessionsLead}
use Rattle.solve_commands.specs.Limits.{limits_given}
use Rattle.solve_commands.specs.SessionFiles.{session_names}

-- what `solo` is asked: limits, and the names of a presentation and of the sessions
pub record SoloAsked : Type 0 where
  pub limits : Limits
  pub presentation : List ℕ
  pub sessions : List (List ℕ)

-- what it is asked by what is given behind its name: a presentation, and 1 to so many sessions
abbrev pub solo_in : GivenWords → Option SoloAsked
solo_in g = option_map (λ n. record {
  limits = limits_given g.settings;
  presentation = n.0;
  sessions = n.1;
}) (session_names g.words)

-- what the code holds of it
abbrev pub solo_asked : SoloWords → SoloAsked
solo_asked w = record {
  limits = w.limits;
  presentation = w.presentation.now;
  sessions = shown w.sessions.items;
}

abbrev pub IsWithinTable : SoloWords → Type 0
IsWithinTable w = FitTable w.limits (length w.sessions.items)

-- The answer that is due to `solo` over these texts; `counted` says that the shelf has counted a failure. The report is
-- solved: all replies are by all items.
abbrev pub SoloLeads : Type 0 → (List ℕ → Option (List ℕ)) → SoloAsked → Answer → Type 0
SoloLeads counted under q a =
    SessionsLead (λ p questions. IsSolved p q.limits questions) counted under q.presentation q.sessions a
