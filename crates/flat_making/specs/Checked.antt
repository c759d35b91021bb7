-- What a report says whose entries and proofs were checked.
use Rattle.std.specs.List.{AllByRecursion}
use Rattle.std.specs.Prelude.{◌≡◌, ℕ, ◌<◌, List, [], length, Some, slice_get, slice_index_or, Result, Ok, Err}
use Rattle.free_words.specs.declared.letter.Letter.{Letter}
use Rattle.presentation.specs.Presented.{Presented}
use Rattle.formal_sums.specs.FormalSum.{Same}
use Rattle.module_vec.specs.declared.steps.Step.{Step}
use Rattle.module_vec.specs.Modules.{sum_of_steps}
use Rattle.module_vec.specs.Places.{same_place}
use Rattle.session_text.specs.Questions.{subjects}
use Rattle.fox_calculus.specs.Fox.{fox}
use Rattle.cert_checker.specs.States.{asked}
use Rattle.report_reading.specs.declared.data.ReportData.{ReportData}
use Rattle.report_reading.specs.declared.entry.EntryData.{EntryData}
use Rattle.report_reading.specs.declared.replies.ReplyData.{ReplyData}
use Rattle.flat_cert.specs.declared.faults.FlatSumFault.{FlatSumFault}
use Rattle.flat_cert.specs.declared.faults.FlatSumFault.TheVariants.{Beyond, NotZero, NoMemory}
use Rattle.flat_making.specs.Making.{vectors_of, IsLog, IsProof}

-- the steps name entries of the log, and add up to the Fox vector of the word
pub record IsShownBy (p : Presented) (es : List EntryData) (w : List Letter) (steps : List Step) : Type 0 where
  pub proof : IsProof p es steps
  pub sum : Same same_place (sum_of_steps (vectors_of es) steps) (fox w)

-- each proof of the reply shows the subject with its number
abbrev pub ShowsSubjects : Presented → List EntryData → ReplyData → Type 0
ShowsSubjects p es r = (j : ℕ) (steps : List Step) → slice_get r.proofs j ≡ Some steps
    → (j < length (subjects r.question)) × IsShownBy p es (slice_index_or (subjects r.question) j []) steps

-- there is a proof for each subject that the verdict asks one for
abbrev pub HasProofs : ReplyData → Type 0
HasProofs r = length r.proofs ≡ length (asked r.question r.verdict)

-- what is read of a report that holds: a log, and a proof of each subject of a yes
pub record IsChecked (p : Presented) (d : ReportData) : Type 0 where
  pub log : IsLog p d.entries
  pub proofs : AllByRecursion (ShowsSubjects p d.entries) d.replies
  pub complete : AllByRecursion HasProofs d.replies

-- a check of a certificate finds no difference
abbrev pub FindsNone : Result (Unit {0}) FlatSumFault → Type 0
FindsNone (Ok _) = Unit {0}
FindsNone (Err Beyond) = Unit {0}
FindsNone (Err (NotZero at)) = ⊥
FindsNone (Err NoMemory) = Unit {0}
