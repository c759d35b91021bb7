-- What the checker answers of a report that was written.
use Rattle.std.specs.List.{AllByRecursion}
use Rattle.std.specs.Prelude.{◌≡◌, ℕ, ◌+◌, List, [], ◌∷◌, length, Result, Ok, Err}
use Rattle.word_text.specs.Place.{capped}
use Rattle.presentation.specs.Presented.{IsPresented}
use Rattle.report_lines.specs.declared.lines.Line.{Line}
use Rattle.report_lines.specs.declared.lines.Line.TheVariants as lines
use Rattle.report_lines.specs.Lines.{IsEndOf}
use Rattle.basis_entry.specs.Entries.{IsBasisEntry}
use Rattle.session_core.specs.Sessions.{IsSession}
use Rattle.cert_checker.specs.declared.checked.Checked.{Checked}
use Rattle.cert_checker.specs.declared.faults.CertFault.{CertFault}
use Rattle.cert_checker.specs.declared.faults.CertFault.TheVariants.{Line as AtLine, NoMemory}
use Rattle.report_reading.specs.declared.replies.ReplyData.{ReplyData}
use Rattle.report_reading.specs.declared.data.ReportData.{ReportData}
use Rattle.report_text.specs.Histories.{History, lines_of}
use Rattle.report_text.specs.Reports.{Reported}

-- ---- what holds of the parts of every report

-- what the types of its parts keep, and of the end, that its numbers are of 32 bits and that it names a place in
-- reach, if any
pub record IsKnown (r : Reported) : Type 0 where
  pub presented : IsPresented r.pres
  pub entries : AllByRecursion IsBasisEntry r.entries
  pub end : IsEndOf (length r.pres.names) r.end
  pub sessions : AllByRecursion IsSession r.sessions

-- ---- what is answered

-- how many of the lines are proofs
abbrev pub proof_count : List Line → ℕ
proof_count [] = 0
proof_count (lines.Entry number made vector ∷ ls) = proof_count ls
proof_count (lines.Seal ∷ ls) = proof_count ls
proof_count (lines.Live session number front question verdict ∷ ls) = proof_count ls
proof_count (lines.Proof subject steps ∷ ls) = proof_count ls + 1
proof_count (lines.End end ∷ ls) = proof_count ls
proof_count (lines.Close session number question verdict ∷ ls) = proof_count ls
proof_count (lines.Done ∷ ls) = proof_count ls

-- the number of entries and that of proofs, each at most 2^32 - 1
abbrev pub told_amount : Reported → History → Checked
told_amount r h = record { entries = capped (length r.entries); proofs = capped (proof_count (lines_of h)) }

-- all lines were taken, unless memory ran out
abbrev pub IsAccepted : Reported → History → Result Checked CertFault → Type 0
IsAccepted r h (Ok c) = c ≡ told_amount r h
IsAccepted r h (Err (AtLine number kind)) = ⊥
IsAccepted r h (Err NoMemory) = Unit {0}

-- ---- what is answered of a trimmed report

-- how many proofs the replies have
abbrev pub proofs_in : List ReplyData → ℕ
proofs_in [] = 0
proofs_in (r ∷ rs) = length r.proofs + proofs_in rs

-- the number of its entries and that of its proofs, each at most 2^32 - 1
abbrev pub data_amount : ReportData → Checked
data_amount d = record { entries = capped (length d.entries); proofs = capped (proofs_in d.replies) }

-- all lines were taken, unless memory ran out
abbrev pub IsTrimmedAccepted : ReportData → Result Checked CertFault → Type 0
IsTrimmedAccepted d (Ok c) = c ≡ data_amount d
IsTrimmedAccepted d (Err (AtLine number kind)) = ⊥
IsTrimmedAccepted d (Err NoMemory) = Unit {0}
