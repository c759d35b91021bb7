-- What is answered to a text that may be a basis file.
use Rattle.std.specs.Prelude.{◌≡◌, ℕ, List, Result, Ok, Err}
use Rattle.presentation.specs.Presented.{Presented}
use Rattle.module_vec.specs.declared.places.Term.{Term}
use Rattle.vector_text.specs.Over.{PlaceIsOver}
use Rattle.report_lines.specs.Lines.{StopIsOver}
use Rattle.basis_entry.specs.Entries.{BasisEntry, vectors_of}
use Rattle.basis_entry.specs.Seals.{Seal}
use Rattle.saved_basis.specs.declared.faults.LineKind.{LineKind}
use Rattle.saved_basis.specs.declared.faults.LineKind.TheVariants as kinds
use Rattle.saved_basis.specs.declared.faults.BasisFault.{BasisFault}
use Rattle.saved_basis.specs.declared.faults.BasisFault.TheVariants.{Line, Open, Stopped, NoMemory}
use Rattle.saved_basis.specs.Files.{IsSaved, basis_text}
use Rattle.saved_basis.specs.Lines.{IsFirstFault, FailsAt}
use Rattle.saved_basis.specs.Tasks.{AllPass, IsAny, IsOpenTask, IsStoppedTask}

-- the text is the file of these entries
pub record IsFileOf (p : Presented) (text : List ℕ) (es : List BasisEntry) : Type 0 where
  pub saved : IsSaved p es
  pub spelled : text ≡ basis_text p es

-- the text is a basis file of the presentation with these entries: no task of theirs adds anything
pub record IsBasisFile (p : Presented) (text : List ℕ) (es : List BasisEntry) : Type 0 where
  pub file : IsFileOf p text es
  pub tasks : AllPass (vectors_of es)

-- every line stands, and of the entries' tasks, in their order, this is the first that fails
abbrev pub FailsAtTask : Presented → List ℕ → (List (List Term) → Type 0) → Type 0
FailsAtTask p text Fails = (es : List BasisEntry) × IsFileOf p text es × Fails (vectors_of es)

-- what is answered, unless memory runs out: the seal of the presentation with the file's entries; or the first line
-- that can't stand; or the first task that fails
abbrev pub ReadsBasis : Presented → List ℕ → Result Seal BasisFault → Type 0
ReadsBasis p text (Ok s) = (s.source ≡ p) × IsBasisFile p text s.entries
ReadsBasis p text (Err (Line n k)) = FailsAt p text n k
ReadsBasis p text (Err (Open i j kind)) =
    FailsAtTask p text (λ b. IsOpenTask IsAny b (record { i = i; j = j; kind = kind }))
ReadsBasis p text (Err (Stopped i j kind stop)) =
    FailsAtTask p text (λ b. IsStoppedTask IsAny b (record { i = i; j = j; kind = kind }) stop)
ReadsBasis p text (Err NoMemory) = Unit {0}

-- ---- how a text is read

-- the fault tells the first line that can't stand
abbrev pub TellsLine : Presented → List ℕ → BasisFault → Type 0
TellsLine p text (Line n k) = FailsAt p text n k
TellsLine p text (Open i j kind) = ⊥
TellsLine p text (Stopped i j kind stop) = ⊥
TellsLine p text NoMemory = Unit {0}

-- that is one of the two at the head
abbrev pub HeadFails : Presented → List ℕ → BasisFault → Type 0
HeadFails p text (Line n k) = (gens : List (List Term)) → IsFirstFault p gens text n k
HeadFails p text (Open i j kind) = ⊥
HeadFails p text (Stopped i j kind stop) = ⊥
HeadFails p text NoMemory = Unit {0}

-- ---- the places that are named

-- over n generators
abbrev pub KindIsOver : ℕ → LineKind → Type 0
KindIsOver n kinds.Text = Unit {0}
KindIsOver n kinds.NoEntry = Unit {0}
KindIsOver n (kinds.NotEqual at) = PlaceIsOver n at
KindIsOver n kinds.Wide = Unit {0}
KindIsOver n kinds.Long = Unit {0}

abbrev pub FaultIsOver : ℕ → BasisFault → Type 0
FaultIsOver n (Line line k) = KindIsOver n k
FaultIsOver n (Open i j kind) = Unit {0}
FaultIsOver n (Stopped i j kind stop) = StopIsOver n stop
FaultIsOver n NoMemory = Unit {0}

-- ---- what was saved

-- the file of a seal is read back, or a task stops; no line of it fails, and no task is open
abbrev pub IsReadBack : Seal → Result Seal BasisFault → Type 0
IsReadBack s (Ok read) = read ≡ s
IsReadBack s (Err (Line n k)) = ⊥
IsReadBack s (Err (Open i j kind)) = ⊥
IsReadBack s (Err (Stopped i j kind stop)) = Unit {0}
IsReadBack s (Err NoMemory) = Unit {0}
