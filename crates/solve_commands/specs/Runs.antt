-- When a report is settled, how it is delivered, and what a command gives that reports.
use Rattle.std.specs.Prelude.{◌≡◌, ℕ, ◌⊎◌, List, Option, Result, Ok, Err}
use Rattle.mb_io.specs.Shelf.{TakesPrefix}
use Rattle.outcomes.specs.declared.ends.End.TheVariants.{Sealed}
use Rattle.report_text.specs.Histories.{History}
use Rattle.report_text.specs.Reports.{Reported, IsReportable, IsHistoryOf, reported, text_of}
use Rattle.report_text.specs.Writing.{Stops}
use Rattle.command_floor.specs.declared.answer.Halt.{Halt}
use Rattle.command_floor.specs.declared.answer.Halt.TheVariants as halts
use Rattle.command_floor.specs.declared.status.Status.{Status}
use Rattle.command_floor.specs.declared.status.Status.TheVariants.{Done, Open, WriteFault, NoMemory}
use Rattle.command_floor.specs.Answers.{Answer}
use Rattle.legal_report.specs.declared.last.Kind.TheVariants.{Stop}
use Rattle.legal_report.specs.declared.solving.Solved.{Solved}
use Rattle.legal_report.specs.Last.{how_many, last_kinds, AreLastKinds}

-- the log is sealed, and no last verdict is a stop
abbrev pub IsSettled : History → Type 0
IsSettled h = (h.end ≡ Sealed) × (how_many Stop (last_kinds h) ≡ 0)

-- done where the report is settled, and open otherwise
abbrev pub ShowsSettled : History → Status → Type 0
ShowsSettled h status = ((status ≡ Done) × IsSettled h) ⊎ ((status ≡ Open) × (IsSettled h → ⊥))

-- A report with its history was written: whole, and the status says whether it is settled; or in part, since the sink
-- has failed, which it has counted, or memory ran out.
abbrev pub WritesReport : Type 0 → Option (List ℕ) → Option (List ℕ) → Reported → History → Status → Type 0
WritesReport counted old new r h status =
    (ShowsSettled h status × TakesPrefix old (text_of r h) new)
    ⊎ ((status ≡ WriteFault) × counted × Stops old (text_of r h) new)
    ⊎ ((status ≡ NoMemory) × Stops old (text_of r h) new)

-- so it is with each history of the report
abbrev pub DeliversReport : Type 0 → Option (List ℕ) → Option (List ℕ) → Reported → Status → Type 0
DeliversReport counted old new r status = (h : History) → IsHistoryOf r h → WritesReport counted old new r h status

-- The report is due to a command, to which the answers are due that `leads` says: it can be written, the kinds of its
-- last verdicts are those, and it has a history whose text is due as an answer, done exactly where it is settled
pub record IsDue (leads : Answer → Type 0) (s : Solved) : Type 0 where
  pub reportable : IsReportable (reported s.report)
  pub last : AreLastKinds (reported s.report) s.last.items
  pub history : History
  pub told : IsHistoryOf (reported s.report) history
  pub shows : (status : Status) → ShowsSettled history status
      → leads (record { status = status; text = text_of (reported s.report) history })

-- what a command gives that reports: a report or an answer that is due, unless memory runs out
abbrev pub GivesReport : (Answer → Type 0) → Result Solved Halt → Type 0
GivesReport leads (Ok s) = IsDue leads s
GivesReport leads (Err (halts.Says a)) = leads a
GivesReport leads (Err halts.NoMemory) = Unit {0}
