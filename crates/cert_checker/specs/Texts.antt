-- A text line by line, and what is told of it: the first line that fails, or how much it holds.
use Rattle.std.specs.Prelude.{◌≡◌, ◌≢◌, ◌⊎◌, ℕ, ◌+◌, List, [], length, Some, None, Result, Ok, Err}
use Rattle.spelling.specs.Spelling.{cut, IsSmall}
use Rattle.word_text.specs.Place.{capped}
use Rattle.presentation.specs.Presented.{Presented}
use Rattle.module_vec.specs.declared.places.Term.{Term}
use Rattle.fox_calculus.specs.Generators.{AreGenerators}
use Rattle.report_lines.specs.declared.trimmed.TrimmedLine.{TrimmedLine}
use Rattle.report_lines.specs.declared.trimmed.TrimmedLine.TheVariants.{Entry, Other}
use Rattle.report_lines.specs.Lines.{IsLineOf}
use Rattle.report_lines.specs.Texts.{title, pres_line}
use Rattle.report_lines.specs.Trimmed.{trimmed_title, items_line, trimmed_line_text, IsTrimmedLineOf}
use Rattle.cert_checker.specs.declared.checked.Checked.{Checked}
use Rattle.cert_checker.specs.declared.version.Version.{Version}
use Rattle.cert_checker.specs.declared.version.Version.TheVariants.{Whole, Trimmed}
use Rattle.cert_checker.specs.declared.phase.Phase.{Phase}
use Rattle.cert_checker.specs.declared.phase.Phase.TheVariants as phases
use Rattle.cert_checker.specs.declared.phase.Phase.TheVariants.{Title, Presentation, Entries, Sealed, Closing, Finished}
use Rattle.cert_checker.specs.declared.faults.CertKind.{CertKind}
use Rattle.cert_checker.specs.declared.faults.CertKind.TheVariants.{Text}
use Rattle.cert_checker.specs.declared.faults.CertFault.{CertFault}
use Rattle.cert_checker.specs.declared.faults.CertFault.TheVariants as faults
use Rattle.cert_checker.specs.States.{State, start, IsSettled}
use Rattle.cert_checker.specs.Checking.{LineHolds, LineFails}

-- ---- the head

-- the first line tells the version
abbrev pub TitleHolds : State → List ℕ → State → Type 0
TitleHolds s bytes taken = ((bytes ≡ title) × (taken ≡ record s { phase = Presentation; version = Whole }))
    ⊎ ((bytes ≡ trimmed_title) × (taken ≡ record s { phase = Presentation; version = Trimmed 0 }))

abbrev pub TitleFails : List ℕ → CertKind → Type 0
TitleFails bytes k = (bytes ≢ title) × (bytes ≢ trimmed_title) × (k ≡ Text)

-- the second is the presentation's; in a trimmed report a third one follows
abbrev pub behind_presentation : Version → Phase
behind_presentation Whole = Entries
behind_presentation (Trimmed items) = phases.Items

abbrev pub PresentationHolds : Presented → State → List ℕ → State → Type 0
PresentationHolds p s bytes taken = (bytes ≡ pres_line p)
    × (taken ≡ record s { phase = behind_presentation s.version })

abbrev pub PresentationFails : Presented → List ℕ → CertKind → Type 0
PresentationFails p bytes k = (bytes ≢ pres_line p) × (k ≡ Text)

-- the third tells how many items the history has
pub record ItemsHold (s : State) (bytes : List ℕ) (taken : State) : Type 0 where
  pub items : ℕ
  pub small : IsSmall items
  pub spelled : bytes ≡ items_line items
  pub is : taken ≡ record s { phase = Entries; version = Trimmed items }

abbrev pub ItemsFail : List ℕ → CertKind → Type 0
ItemsFail bytes k = ((n : ℕ) → IsSmall n → bytes ≢ items_line n) × (k ≡ Text)

-- ---- one line behind the head

-- the lines of a report of this version over the presentation
abbrev pub IsLineIn : Version → Presented → TrimmedLine → Type 0
IsLineIn Whole p (Entry number from made vector) = ⊥
IsLineIn Whole p (Other l) = IsLineOf p l
IsLineIn (Trimmed items) p l = IsTrimmedLineOf p l

-- the bytes are those of a line over the presentation that is taken
pub record BodyHolds (p : Presented) (gens : List (List Term)) (s : State) (bytes : List ℕ)
    (taken : State) : Type 0 where
  pub line : TrimmedLine
  pub valid : IsLineIn s.version p line
  pub spelled : bytes ≡ trimmed_line_text p line
  pub holds : LineHolds gens s line taken

-- they are those of a line that fails
pub record SpelledFails (p : Presented) (gens : List (List Term)) (s : State) (bytes : List ℕ)
    (k : CertKind) : Type 0 where
  pub line : TrimmedLine
  pub valid : IsLineIn s.version p line
  pub spelled : bytes ≡ trimmed_line_text p line
  pub fails : LineFails gens s line k

-- or those of no line
abbrev pub IsNoLine : Version → Presented → List ℕ → Type 0
IsNoLine v p bytes = (l : TrimmedLine) → IsLineIn v p l → bytes ≡ trimmed_line_text p l → ⊥

abbrev pub BodyFails : Presented → List (List Term) → State → List ℕ → CertKind → Type 0
BodyFails p gens s bytes k = SpelledFails p gens s bytes k ⊎ (IsNoLine s.version p bytes × (k ≡ Text))

-- the bytes of a line, after what was taken
abbrev pub HoldsIn : Phase → Presented → List (List Term) → State → List ℕ → State → Type 0
HoldsIn Title p gens s bytes taken = TitleHolds s bytes taken
HoldsIn Presentation p gens s bytes taken = PresentationHolds p s bytes taken
HoldsIn phases.Items p gens s bytes taken = ItemsHold s bytes taken
HoldsIn Entries p gens s bytes taken = BodyHolds p gens s bytes taken
HoldsIn Sealed p gens s bytes taken = BodyHolds p gens s bytes taken
HoldsIn Closing p gens s bytes taken = BodyHolds p gens s bytes taken
HoldsIn Finished p gens s bytes taken = BodyHolds p gens s bytes taken

abbrev pub FailsIn : Phase → Presented → List (List Term) → State → List ℕ → CertKind → Type 0
FailsIn Title p gens s bytes k = TitleFails bytes k
FailsIn Presentation p gens s bytes k = PresentationFails p bytes k
FailsIn phases.Items p gens s bytes k = ItemsFail bytes k
FailsIn Entries p gens s bytes k = BodyFails p gens s bytes k
FailsIn Sealed p gens s bytes k = BodyFails p gens s bytes k
FailsIn Closing p gens s bytes k = BodyFails p gens s bytes k
FailsIn Finished p gens s bytes k = BodyFails p gens s bytes k

abbrev pub BytesHold : Presented → List (List Term) → State → List ℕ → State → Type 0
BytesHold p gens s bytes taken = HoldsIn s.phase p gens s bytes taken

abbrev pub BytesFail : Presented → List (List Term) → State → List ℕ → CertKind → Type 0
BytesFail p gens s bytes k = FailsIn s.phase p gens s bytes k

-- ---- all lines

-- the last line was taken, no proof is due, and nothing stands behind
pub record IsComplete (s : State) (rest : List ℕ) : Type 0 where
  pub finished : s.phase ≡ Finished
  pub settled : IsSettled s
  pub nothing : rest ≡ []

abbrev pub counts : State → Checked
counts s = record { entries = capped (length s.entries); proofs = s.proofs }

-- What is told of a text whose first line has this number, after what was taken. Each line ends with the byte 10.
pub data Tells (p : Presented) (gens : List (List Term)) : ℕ → State → List ℕ → Result Checked CertFault → Type 0 where
  -- all lines were taken
  complete : (n : ℕ) (s : State) (text : List ℕ) → cut 10 text ≡ None → IsComplete s text
      → Tells p gens n s text (Ok (counts s))
  -- no line stands here, or one without its end
  missing : (n : ℕ) (s : State) (text : List ℕ) → cut 10 text ≡ None → (IsComplete s text → ⊥)
      → Tells p gens n s text (Err (faults.Line n Text))
  -- this line is the first that fails
  fails : (n : ℕ) (s : State) (text line others : List ℕ) (k : CertKind) → cut 10 text ≡ Some (line, others)
      → BytesFail p gens s line k
      → Tells p gens n s text (Err (faults.Line n k))
  -- it is taken, and the others follow
  goes_on : (n : ℕ) (s taken : State) (text line others : List ℕ) (r : Result Checked CertFault)
      → cut 10 text ≡ Some (line, others) → BytesHold p gens s line taken
      → Tells p gens (capped (n + 1)) taken others r → Tells p gens n s text r

-- what is told of a whole text, by the generators of the presentation's module
pub record TellsWhole (p : Presented) (text : List ℕ) (r : Result Checked CertFault) : Type 0 where
  pub generators : List (List Term)
  pub are : AreGenerators p generators
  pub tells : Tells p generators 1 start text r

-- what the checker answers, unless memory runs out
abbrev pub Answers : Presented → List ℕ → Result Checked CertFault → Type 0
Answers p text (Ok c) = TellsWhole p text (Ok c)
Answers p text (Err (faults.Line n k)) = TellsWhole p text (Err (faults.Line n k))
Answers p text (Err faults.NoMemory) = Unit {0}
