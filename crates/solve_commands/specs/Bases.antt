-- What the text of a basis that a command reads leads to.
use Rattle.std.specs.Prelude.{◌≡◌, ℕ, ◌<◌, ◌≤◌, ◌⊎◌, List, ◌++◌, length, Option, IfSome, Result, Ok, Err, codes, decimal}
use Rattle.presentation.specs.Presented.{Presented}
use Rattle.outcomes.specs.declared.tasks.Task.{Task}
use Rattle.module_vec.specs.declared.faults.Stop.{Stop}
use Rattle.vector_text.specs.Spelling.{place_text}
use Rattle.report_lines.specs.Texts.{task_text, stop_text}
use Rattle.basis_entry.specs.Entries.{BasisEntry}
use Rattle.basis_entry.specs.Seals.{Seal}
use Rattle.saved_basis.specs.declared.faults.LineKind.{LineKind}
use Rattle.saved_basis.specs.declared.faults.LineKind.TheVariants.{Text, NoEntry, NotEqual, Wide, Long}
use Rattle.saved_basis.specs.declared.faults.BasisFault.{BasisFault}
use Rattle.saved_basis.specs.declared.faults.BasisFault.TheVariants as faults
use Rattle.saved_basis.specs.Reading.{IsBasisFile, ReadsBasis}
use Rattle.command_floor.specs.declared.answer.Halt.{Halt}
use Rattle.command_floor.specs.declared.answer.Halt.TheVariants.{Says, NoMemory}
use Rattle.command_floor.specs.declared.status.Status.TheVariants.{Fails}
use Rattle.command_floor.specs.Answers.{Answer, unread, too_long}
use Rattle.solve_commands.specs.declared.bases.TheConstants.{BASIS_BYTES}

-- ---- what is said of a fault

-- the name that a kind of fault has in an answer
abbrev pub kind_text : List (List ℕ) → LineKind → List ℕ
kind_text names Text = codes "text"
kind_text names NoEntry = codes "no-entry"
kind_text names (NotEqual at) = codes "not-equal " ++ place_text names at
kind_text names Wide = codes "wide"
kind_text names Long = codes "long"

-- this line is the first that can't stand
abbrev pub line_fails : List (List ℕ) → ℕ → LineKind → Answer
line_fails names line kind = record {
  status = Fails;
  text =
      (codes "fails line " ++ decimal line ++ codes " ") ++ (kind_text names kind ++ codes "\n");
}

-- this task is the first that fails: it leaves a rest
abbrev pub task_is_open : Task → Answer
task_is_open t = record { status = Fails; text = codes "fails open " ++ (task_text t ++ codes "\n") }

-- or it stops
abbrev pub task_stops : List (List ℕ) → Task → Stop → Answer
task_stops names t stop = record {
  status = Fails;
  text = codes "fails stop " ++ (task_text t ++ (codes " " ++ (stop_text names stop ++ codes "\n")));
}

-- the answer to what is wrong with a basis
abbrev pub SaysFault : Presented → BasisFault → Answer → Type 0
SaysFault p (faults.Line line kind) a = a ≡ line_fails p.names line kind
SaysFault p (faults.Open i j kind) a = a ≡ task_is_open (record { i = i; j = j; kind = kind })
SaysFault p (faults.Stopped i j kind stop) a = a ≡ task_stops p.names (record { i = i; j = j; kind = kind }) stop
SaysFault p faults.NoMemory a = ⊥

abbrev pub RefusesBasis : Presented → BasisFault → Halt → Type 0
RefusesBasis p fault (Says a) = SaysFault p fault a
RefusesBasis p fault NoMemory = Unit {0}

-- ---- what is read

-- the text under this name is the basis file of these entries, where the shelf tells that
abbrev pub IsBasisIn : (List ℕ → Option (List ℕ)) → List ℕ → Presented → List BasisEntry → Type 0
IsBasisIn under name p es = IfSome (under name) (λ bytes. (length bytes ≤ BASIS_BYTES) × IsBasisFile p bytes es)

-- why a text is no basis
abbrev pub BasisFails : Type 0 → Presented → List ℕ → Option (List ℕ) → Answer → Type 0
BasisFails counted p name told a =
    (counted × (a ≡ unread name)) ⊎ IfSome told (λ bytes.
    ((BASIS_BYTES < length bytes) × (a ≡ too_long name BASIS_BYTES))
    ⊎ ((length bytes ≤ BASIS_BYTES)
    × ((fault : BasisFault) × ReadsBasis p bytes (Err fault) × SaysFault p fault a)))

-- what reading a basis whole and testing it answers: its seal, or what is wrong
abbrev pub BasisGives : Type 0 → Presented → List ℕ → Option (List ℕ) → Result Seal Halt → Type 0
BasisGives counted p name told (Ok s) = IfSome told (λ bytes. (length bytes ≤ BASIS_BYTES)
    × IsBasisFile p bytes s.entries)
BasisGives counted p name told (Err (Says a)) = BasisFails counted p name told a
BasisGives counted p name told (Err NoMemory) = Unit {0}
