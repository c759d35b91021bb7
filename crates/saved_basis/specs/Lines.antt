-- Which line of a text is the first that can't stand in a basis file, and why.
use Rattle.std.specs.Prelude.{◌≡◌, ◌≢◌, ℕ, ◌+◌, ◌≤◌, List, [], ◌∷◌, ◌++◌, length, Option, Some, None, Result, Ok, Err}
use Rattle.spelling.specs.Spelling.{cut}
use Rattle.presentation.specs.Presented.{Presented}
use Rattle.module_vec.specs.declared.places.Term.{Term}
use Rattle.module_vec.specs.Reducers.{IsEntry}
use Rattle.fox_calculus.specs.Generators.{AreGenerators}
use Rattle.report_lines.specs.declared.lines.Made.{Made}
use Rattle.report_lines.specs.declared.lines.Made.TheVariants.{Gen, Sum}
use Rattle.report_lines.specs.declared.lines.Line.TheVariants as lines
use Rattle.report_lines.specs.Lines.{IsLineOf}
use Rattle.report_lines.specs.Texts.{pres_line, line_text}
use Rattle.cert_checker.specs.declared.faults.CertKind.{CertKind}
use Rattle.cert_checker.specs.declared.faults.CertKind.TheVariants as checked
use Rattle.cert_checker.specs.States.{IsInTurn}
use Rattle.cert_checker.specs.Checking.{EntryFails}
use Rattle.basis_entry.specs.Entries.{BasisEntry, vectors_of}
use Rattle.saved_basis.specs.declared.TheConstants.{ENTRIES, LOG_TERMS, LOG_STEPS}
use Rattle.saved_basis.specs.declared.faults.LineKind.{LineKind}
use Rattle.saved_basis.specs.declared.faults.LineKind.TheVariants.{Text, NoEntry, NotEqual, Wide, Long}
use Rattle.saved_basis.specs.declared.faults.LineFault.{LineFault}
use Rattle.saved_basis.specs.declared.faults.LineFault.TheVariants as faults
use Rattle.saved_basis.specs.Files.{IsBeginning, terms_of, steps_of, title, last_line, begun_text, basis_text}

-- ---- one line

-- how many steps the recipe of an entry has; a generator has none
abbrev pub made_steps : Made → ℕ
made_steps (Gen negated) = 0
made_steps (Sum steps) = length steps

-- An entry that is made so may be the next one: generators come first, the multiples of entries that are there are in
-- reach, its lead coefficient is positive, and with it the limits are kept
pub record MayStand (gens : List (List Term)) (es : List BasisEntry) (made : Made) (v : List Term) : Type 0 where
  pub turn : IsInTurn gens (vectors_of es) made
  pub entry : IsEntry v
  pub entries : length es + 1 ≤ ENTRIES
  pub terms : terms_of es + length v ≤ LOG_TERMS
  pub steps : steps_of es + made_steps made ≤ LOG_STEPS

-- the bytes are the line of an entry that may be the next one
pub record IsEntryLine (p : Presented) (gens : List (List Term)) (es : List BasisEntry) (bytes : List ℕ) (made : Made)
    (v : List Term) : Type 0 where
  pub valid : IsLineOf p (lines.Entry (length es) made v)
  pub spelled : bytes ≡ line_text p (lines.Entry (length es) made v)
  pub may : MayStand gens es made v

-- or they are the last line, and every generator has its entry
abbrev pub IsLastLine : List (List Term) → List BasisEntry → List ℕ → Type 0
IsLastLine gens es bytes = (length gens ≤ length es) × (bytes ≡ last_line)

-- the entry isn't what it is made to be, as the checker of reports says it
abbrev pub as_checked : LineKind → CertKind
as_checked Text = checked.Text
as_checked NoEntry = checked.NoEntry
as_checked (NotEqual at) = checked.NotEqual at
as_checked Wide = checked.Wide
as_checked Long = checked.Long

abbrev pub MadeFails : List (List Term) → List BasisEntry → Made → List Term → LineKind → Type 0
MadeFails gens es made v k = EntryFails gens (vectors_of es) made v (as_checked k)

-- the line is that of an entry that may be the next one, and its making fails
abbrev pub EntryLineFails : Presented → List (List Term) → List BasisEntry → List ℕ → LineKind → Type 0
EntryLineFails p gens es bytes k = (made : Made) × (v : List Term) × IsEntryLine p gens es bytes made v
    × MadeFails gens es made v k

-- the bytes can't be the line behind these entries. First they have to be a line that may stand there
abbrev pub LineFails : Presented → List (List Term) → List BasisEntry → List ℕ → LineKind → Type 0
LineFails p gens es bytes Text = ((made : Made) (v : List Term) → IsEntryLine p gens es bytes made v → ⊥)
    × (IsLastLine gens es bytes → ⊥)
LineFails p gens es bytes NoEntry = EntryLineFails p gens es bytes NoEntry
LineFails p gens es bytes (NotEqual at) = EntryLineFails p gens es bytes (NotEqual at)
LineFails p gens es bytes Wide = EntryLineFails p gens es bytes Wide
LineFails p gens es bytes Long = EntryLineFails p gens es bytes Long

-- ---- all lines

-- no line with its end stands here, or another one than this
abbrev pub IsOther : List ℕ → Option (List ℕ × List ℕ) → Type 0
IsOther wanted None = Unit {0}
IsOther wanted (Some parts) = parts.0 ≢ wanted

-- what is left behind these entries begins with a line that can't stand there, or with none
abbrev pub CantFollow : Presented → List (List Term) → List BasisEntry → Option (List ℕ × List ℕ) → LineKind → Type 0
CantFollow p gens es None k = k ≡ Text
CantFollow p gens es (Some parts) k = LineFails p gens es parts.0 k

-- the line with this number is the first that can't stand, for this reason: all before it do
pub data IsFirstFault (p : Presented) (gens : List (List Term)) (text : List ℕ) : ℕ → LineKind → Type 0 where
  at_title : IsOther title (cut 10 text) → IsFirstFault p gens text 1 Text
  at_presentation : (rest : List ℕ) → text ≡ title ++ 10 ∷ rest → IsOther (pres_line p) (cut 10 rest)
      → IsFirstFault p gens text 2 Text
  behind : (es : List BasisEntry) (rest : List ℕ) (k : LineKind) → IsBeginning p gens es
      → text ≡ begun_text p es ++ rest → CantFollow p gens es (cut 10 rest) k
      → IsFirstFault p gens text (length es + 3) k
  after_last : (es : List BasisEntry) (rest : List ℕ) → IsBeginning p gens es → length gens ≤ length es
      → text ≡ basis_text p es ++ rest → rest ≢ [] → IsFirstFault p gens text (length es + 4) Text

-- the same, by the generators of the presentation's module
pub record FailsAt (p : Presented) (text : List ℕ) (n : ℕ) (k : LineKind) : Type 0 where
  pub generators : List (List Term)
  pub are : AreGenerators p generators
  pub fault : IsFirstFault p generators text n k

-- ---- what comes of a line

-- unless memory runs out
abbrev pub Outcome : {X : Type 0} → (X → Type 0) → (LineKind → Type 0) → Result X LineFault → Type 0
Outcome Holds Fails (Ok x) = Holds x
Outcome Holds Fails (Err (faults.Fails k)) = Fails k
Outcome Holds Fails (Err faults.NoMemory) = Unit {0}
