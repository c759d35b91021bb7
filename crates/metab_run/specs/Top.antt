-- What is found for the words of the command line, and how a run ends.
use Rattle.std.specs.Prelude.{◌≡◌, ℕ, List, Option, Result, Ok, Err}
use Rattle.std.specs.Arc.{arc_value}
use Rattle.command_floor.specs.declared.answer.Halt.{Halt}
use Rattle.command_floor.specs.declared.answer.Halt.TheVariants as halts
use Rattle.command_floor.specs.declared.status.Status.{Status}
use Rattle.command_floor.specs.declared.status.Status.TheVariants.{Done, ReadFault}
use Rattle.command_floor.specs.Answers.{Answer}
use Rattle.command_floor.specs.Ends.{Ends}
use Rattle.basis_entry.specs.Seals.{Seal}
use Rattle.legal_report.specs.declared.solving.Solved.{Solved}
use Rattle.solve_commands.specs.Runs.{IsDue}
use Rattle.solve_commands.specs.Save.{IsDueBasis}
use Rattle.metab_run.specs.declared.top.Found.{Found}
use Rattle.metab_run.specs.declared.top.Found.TheVariants.{Says, Reports, Saves}
use Rattle.metab_run.specs.Owed.{Owed}

-- the report is due to a command that reports
pub record IsDueReport (o : Owed) (s : Solved) : Type 0 where
  pub reports : o.reports
  pub promises : o.promises
  pub due : IsDue o.leads s

-- the basis file of the seal is due to a command that writes such files line by line, as reports
pub record IsDueFile (o : Owed) (s : Seal) : Type 0 where
  pub reports : o.reports
  pub promises : o.promises
  pub due : IsDueBasis o.leads s

-- the answer is due; `counted` says that the shelf has counted a failure
pub record IsDueAnswer (o : Owed) (counted : Type 0) (a : Answer) : Type 0 where
  pub leads : o.leads a
  pub promises : a.status ≡ Done → o.promises
  pub read_fault : a.status ≡ ReadFault → counted

-- what is found is what is owed: a report, a basis file or an answer that is due, unless memory runs out
abbrev pub FindsOwed : Owed → Type 0 → Result Found Halt → Type 0
FindsOwed o counted (Ok (Says a)) = IsDueAnswer o counted a
FindsOwed o counted (Ok (Reports s)) = IsDueReport o s
FindsOwed o counted (Ok (Saves s)) = IsDueFile o (arc_value s)
FindsOwed o counted (Err (halts.Says a)) = IsDueAnswer o counted a
FindsOwed o counted (Err halts.NoMemory) = Unit {0}

-- a run that owes this ends so
abbrev pub EndsOwed : Owed → Type 0 → Option (List ℕ) → Option (List ℕ) → Status → Type 0
EndsOwed o failed old new status = Ends o.reports o.leads failed old new status
