-- What the text of a report leads to that is read and then checked.
use Rattle.std.specs.Prelude.{◌≡◌, ℕ, ◌≤◌, List, length, Option, IfSome, Result, Ok, Err, codes, ◌⊎◌}
use Rattle.presentation.specs.Presented.{Presented}
use Rattle.presentation.specs.Reading.{presentation_text}
use Rattle.report_reading.specs.declared.data.ReportData.{ReportData}
use Rattle.report_reading.specs.declared.fault.ReportFault.{ReportFault}
use Rattle.report_reading.specs.declared.fault.ReportFault.TheVariants as reading
use Rattle.report_reading.specs.Reading.{Answers as IsRead}
use Rattle.cert_checker.specs.declared.checked.Checked.{Checked}
use Rattle.cert_checker.specs.declared.faults.CertKind.{CertKind}
use Rattle.cert_checker.specs.declared.faults.CertFault.{CertFault}
use Rattle.cert_checker.specs.declared.faults.CertFault.TheVariants as checking
use Rattle.cert_checker.specs.Texts.{Answers as IsCheckedText}
use Rattle.command_floor.specs.declared.answer.Halt.{Halt}
use Rattle.command_floor.specs.declared.answer.Halt.TheVariants.{Says, NoMemory}
use Rattle.command_floor.specs.Answers.{Answer}
use Rattle.command_floor.specs.declared.TheConstants.{PRESENTATION_BYTES}
use Rattle.command_floor.specs.Files.{in_lines, FileLeads, BytesLead}
use Rattle.check_commands.specs.declared.TheConstants.{REPORT_BYTES}
use Rattle.check_commands.specs.Check.{fails}
use Rattle.check_commands.specs.Faults.{line_refused, RefusesLine}

-- the first line that fails is the answer, or what the report says goes on
abbrev pub FoundLeads : Presented → ReportData → (ReportData → Answer → Type 0) → Result Checked CertFault → Answer
    → Type 0
FoundLeads p d next (Ok c) a = next d a
FoundLeads p d next (Err (checking.Line line kind)) a = a ≡ fails p.names line kind
FoundLeads p d next (Err checking.NoMemory) a = ⊥

-- the first line that can't stand is refused, or the text is checked
abbrev pub ReadingLeads : Presented → List ℕ → List ℕ → (ReportData → Answer → Type 0) → Result ReportData ReportFault
    → Answer → Type 0
ReadingLeads p name bytes next (Ok d) a = (found : Result Checked CertFault) × IsCheckedText p bytes found
    × FoundLeads p d next found a
ReadingLeads p name bytes next (Err (reading.Line line)) a = a ≡ line_refused name line (codes "report")
ReadingLeads p name bytes next (Err reading.NoMemory) a = ⊥

-- the text under this name is read as a report over the presentation and then checked, and what it says goes on
abbrev pub CheckedReportLeads : Presented → List ℕ → (ReportData → Answer → Type 0) → List ℕ → Answer → Type 0
CheckedReportLeads p name next bytes a = (read : Result ReportData ReportFault) × IsRead p bytes read
    × ReadingLeads p name bytes next read a

-- the answer that is due to a command that goes by a report, over these texts: the presentation is read, then the
-- report, and what this says goes on; `counted` says that the shelf has counted a failure
abbrev pub ReportCommandLeads : Type 0 → (List ℕ → Option (List ℕ)) → List ℕ → List ℕ
    → (Presented → ReportData → Answer → Type 0) → Answer → Type 0
ReportCommandLeads counted under presentation report next a =
    FileLeads counted PRESENTATION_BYTES presentation (under presentation) (in_lines presentation_text)
    (λ p. BytesLead counted REPORT_BYTES report (under report) (CheckedReportLeads p report (next p))) a

-- a line that can't stand is refused
abbrev pub RefusesReport : List ℕ → ReportFault → Halt → Type 0
RefusesReport name (reading.Line line) h = RefusesLine name line (codes "report") h
RefusesReport name reading.NoMemory (Says a) = ⊥
RefusesReport name reading.NoMemory NoMemory = Unit {0}

-- the text is read as a report that says this, and its lines hold
abbrev pub SaysAndHolds : Presented → ReportData → List ℕ → Type 0
SaysAndHolds p d bytes = IsRead p bytes (Ok d) × ((c : Checked) × IsCheckedText p bytes (Ok c))

-- the text has a line that can't stand, which is refused; or it is read, and a line of it fails
abbrev pub ReportFails : Presented → List ℕ → List ℕ → Answer → Type 0
ReportFails p name bytes a =
    ((line : ℕ) × IsRead p bytes (Err (reading.Line line)) × (a ≡ line_refused name line (codes "report")))
    ⊎ ((d : ReportData) × IsRead p bytes (Ok d) × ((line : ℕ) × (kind : CertKind)
    × IsCheckedText p bytes (Err (checking.Line line kind)) × (a ≡ fails p.names line kind)))

-- what is given of this text: what it says, or the answer to what is wrong with it
abbrev pub GivesReport : Presented → List ℕ → List ℕ → Result ReportData Halt → Type 0
GivesReport p name bytes (Ok d) = SaysAndHolds p d bytes
GivesReport p name bytes (Err (Says a)) = ReportFails p name bytes a
GivesReport p name bytes (Err NoMemory) = Unit {0}

-- the same of the text under a name
abbrev pub LoadsReport : Presented → Type 0 → List ℕ → Option (List ℕ) → Result ReportData Halt → Type 0
LoadsReport p counted name told (Ok d) =
    IfSome told (λ bytes. (length bytes ≤ REPORT_BYTES) × SaysAndHolds p d bytes)
LoadsReport p counted name told (Err (Says a)) = BytesLead counted REPORT_BYTES name told (ReportFails p name) a
LoadsReport p counted name told (Err NoMemory) = Unit {0}
