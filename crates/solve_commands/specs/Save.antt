-- What the command `save` answers.
use Rattle.std.specs.Prelude.{◌≡◌, ◌≢◌, ◌⊎◌, ℕ, List, [], ◌∷◌, Option, Some, None, Result, Ok, Err}
use Rattle.std.specs.Arc.{arc_value}
use Rattle.mb_io.specs.Shelf.{TakesPrefix}
use Rattle.presentation.specs.Presented.{Presented}
use Rattle.presentation.specs.Reading.{presentation_text}
use Rattle.outcomes.specs.declared.ends.End.TheVariants.{Sealed}
use Rattle.basis_entry.specs.Entries.{BasisEntry, vectors_of}
use Rattle.basis_entry.specs.Seals.{Seal, IsStrongBasis}
use Rattle.pair_book.specs.declared.limits.Limits.{Limits}
use Rattle.pair_book.specs.Logs.{IsLawful}
use Rattle.report_text.specs.Histories.{History}
use Rattle.report_text.specs.Reports.{Reported, IsRecord, text_of}
use Rattle.report_text.specs.Writing.{Stops}
use Rattle.saved_basis.specs.declared.faults.BasisFault.{BasisFault}
use Rattle.saved_basis.specs.Files.{basis_text}
use Rattle.saved_basis.specs.Reading.{ReadsBasis, IsReadBack}
use Rattle.command_floor.specs.declared.answer.Halt.{Halt}
use Rattle.command_floor.specs.declared.answer.Halt.TheVariants as halts
use Rattle.command_floor.specs.declared.status.Status.{Status}
use Rattle.command_floor.specs.declared.status.Status.TheVariants.{Done, Open, WriteFault, NoMemory}
use Rattle.command_floor.specs.declared.TheConstants.{PRESENTATION_BYTES}
use Rattle.command_floor.specs.Answers.{Answer}
use Rattle.command_floor.specs.Files.{in_lines, FileFails}
use Rattle.command_floor.specs.Parsing.{GivenWords}
use Rattle.legal_report.specs.Legal.{AreWithinLimits}
use Rattle.legal_report.specs.Solutions.{IsSolved}
use Rattle.solve_commands.specs.declared.save.SaveWords.{SaveWords}
use Rattle.solve_commands.specs.declared.save.Saved.{Saved}
use Rattle.solve_commands.specs.declared.save.Saved.TheVariants.{Basis, Report}
use Rattle.solve_commands.specs.Limits.{limits_given}
use Rattle.solve_commands.specs.Presentations.{IsPresentedIn}
use Rattle.solve_commands.specs.Runs.{IsDue}

-- what `save` is asked: limits, and the name of a presentation
pub record SaveAsked : Type 0 where
  pub limits : Limits
  pub presentation : List ℕ

abbrev pub save_by : Limits → List (List ℕ) → Option SaveAsked
save_by limits (p ∷ []) = Some (record { limits = limits; presentation = p })
save_by limits _ = None

-- what it is asked by what is given behind its name: one word
abbrev pub save_in : GivenWords → Option SaveAsked
save_in g = save_by (limits_given g.settings) g.words

-- what the code holds of it
abbrev pub save_asked : SaveWords → SaveAsked
save_asked w = record { limits = w.limits; presentation = w.presentation.now }

-- ---- what the text leads to

-- the entries are a lawful log of the presentation within the limits, and a strong basis
pub record IsCompleteLog (p : Presented) (limits : Limits) (es : List BasisEntry) : Type 0 where
  pub base : ℕ
  pub lawful : IsLawful p base es
  pub within : AreWithinLimits limits es
  pub strong : IsStrongBasis p (vectors_of es)

-- the text is read as the seal of these entries, or a task of theirs stops: no line of it fails, and no task is open
abbrev pub ReadsBack : Presented → List BasisEntry → List ℕ → Type 0
ReadsBack p es text = (r : Result Seal BasisFault) → ReadsBasis p text r
    → IsReadBack (record { source = p; entries = es }) r

-- the answer is the basis file of a complete log of the presentation that the text spells, where the shelf tells that
pub record ShowsBasis (under : List ℕ → Option (List ℕ)) (q : SaveAsked) (a : Answer) : Type 0 where
  pub p : Presented
  pub presented : IsPresentedIn under q.presentation p
  pub entries : List BasisEntry
  pub complete : IsCompleteLog p q.limits entries
  pub text : a.text ≡ basis_text p entries
  pub reads_back : ReadsBack p entries a.text
  pub status : a.status ≡ Done

-- the answer is the report of a completion that isn't sealed, without sessions
pub record ShowsOpen (under : List ℕ → Option (List ℕ)) (q : SaveAsked) (a : Answer) : Type 0 where
  pub p : Presented
  pub presented : IsPresentedIn under q.presentation p
  pub report : Reported
  pub history : History
  pub solved : IsSolved p q.limits [] report history
  pub unsealed : report.end ≢ Sealed
  pub text : a.text ≡ text_of report history
  pub status : a.status ≡ Open

-- nothing is completed: the presentation's text has no value
abbrev pub SaveFails : Type 0 → (List ℕ → Option (List ℕ)) → SaveAsked → Answer → Type 0
SaveFails counted under q a = (a.status ≢ Done) × (a.status ≢ Open)
    × FileFails counted PRESENTATION_BYTES q.presentation (under q.presentation) (in_lines presentation_text) a

-- the answer that is due to `save` over this text; `counted` says that the shelf has counted a failure
abbrev pub SaveLeads : Type 0 → (List ℕ → Option (List ℕ)) → SaveAsked → Answer → Type 0
SaveLeads counted under q a = ShowsBasis under q a ⊎ ShowsOpen under q a ⊎ SaveFails counted under q a

-- ---- what the command gives

-- the basis file of the seal is due to a command, to which the answers are due that `leads` says
pub record IsDueBasis (leads : Answer → Type 0) (s : Seal) : Type 0 where
  pub base : ℕ
  pub log : IsRecord s.source base s.entries
  pub shows : leads (record { status = Done; text = basis_text s.source s.entries })

-- what is given: a seal, a report or an answer that is due, unless memory runs out
abbrev pub GivesSaved : (Answer → Type 0) → Result Saved Halt → Type 0
GivesSaved leads (Ok (Basis s)) = IsDueBasis leads (arc_value s)
GivesSaved leads (Ok (Report s)) = IsDue leads s
GivesSaved leads (Err (halts.Says a)) = leads a
GivesSaved leads (Err halts.NoMemory) = Unit {0}

-- A basis file was written: whole, or in part, since the sink has failed, which it has counted, or memory ran out
abbrev pub DeliversBasis : Type 0 → Option (List ℕ) → Option (List ℕ) → Seal → Status → Type 0
DeliversBasis counted old new s status =
    ((status ≡ Done) × TakesPrefix old (basis_text s.source s.entries) new)
    ⊎ ((status ≡ WriteFault) × counted × Stops old (basis_text s.source s.entries) new)
    ⊎ ((status ≡ NoMemory) × Stops old (basis_text s.source s.entries) new)
