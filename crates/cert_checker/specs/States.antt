-- What was taken of a report before a line, and which line may follow.
--
-- A whole report has all items of a history. A trimmed one has some of the entries, each with its number in the
-- history, and the fronts of its answers count the items of the history.
use Rattle.std.specs.List.{AllByRecursion}
use Rattle.std.specs.Prelude.{◌≡◌, ℕ, ◌+◌, ◌<◌, ◌≤◌, List, [], ◌∷◌, ◌++◌, length}
use Rattle.free_words.specs.declared.letter.Letter.{Letter}
use Rattle.free_words.specs.declared.TheConstants.{COMPOSED}
use Rattle.free_words.specs.Words.{IsOver}
use Rattle.presentation.specs.Presented.{Presented}
use Rattle.word_text.specs.Place.{capped}
use Rattle.module_vec.specs.declared.places.Term.{Term}
use Rattle.module_vec.specs.declared.steps.Step.{Step}
use Rattle.module_vec.specs.Vectors.{HasRoom, InRange}
use Rattle.module_vec.specs.Modules.{vector_at}
use Rattle.outcomes.specs.declared.verdicts.Verdict.{Verdict}
use Rattle.outcomes.specs.declared.verdicts.Verdict.TheVariants as verdicts
use Rattle.session_text.specs.declared.question.Question.{Question}
use Rattle.session_text.specs.Questions.{HasImages, subjects}
use Rattle.report_lines.specs.declared.lines.Made.{Made}
use Rattle.report_lines.specs.declared.lines.Made.TheVariants.{Gen, Sum}
use Rattle.report_lines.specs.declared.lines.Line.{Line}
use Rattle.report_lines.specs.declared.lines.Line.TheVariants as lines
use Rattle.report_lines.specs.declared.trimmed.TrimmedLine.{TrimmedLine}
use Rattle.report_lines.specs.declared.trimmed.TrimmedLine.TheVariants.{Entry, Other}
use Rattle.cert_checker.specs.declared.version.Version.{Version}
use Rattle.cert_checker.specs.declared.version.Version.TheVariants.{Whole, Trimmed}
use Rattle.cert_checker.specs.declared.phase.Phase.{Phase}
use Rattle.cert_checker.specs.declared.phase.Phase.TheVariants as phases
use Rattle.cert_checker.specs.declared.phase.Phase.TheVariants.{Title, Presentation, Entries, Sealed, Closing, Finished}

pub record State : Type 0 where
  pub phase : Phase
  pub version : Version
  -- of a trimmed report: so many items of the history stand before, by the entries and fronts so far
  pub passed : ℕ
  -- the vectors of the entries
  pub entries : List (List Term)
  -- the subjects of the last answer that has proofs, and how many of them were shown
  pub subjects : List (List Letter)
  pub shown : ℕ
  -- the number of all proofs
  pub proofs : ℕ

-- before the first line
abbrev pub start : State
start = record {
  phase = Title;
  version = Whole;
  passed = 0;
  entries = [];
  subjects = [];
  shown = 0;
  proofs = 0;
}

-- no proof is due
abbrev pub IsSettled : State → Type 0
IsSettled s = length s.subjects ≤ s.shown

-- the end isn't told yet
abbrev pub IsOpen : Phase → Type 0
IsOpen Title = ⊥
IsOpen Presentation = ⊥
IsOpen phases.Items = ⊥
IsOpen Entries = Unit {0}
IsOpen Sealed = Unit {0}
IsOpen Closing = ⊥
IsOpen Finished = ⊥

-- each generator of the module has its entry, unless entries may be left out
abbrev pub HasGeneratorsIn : Version → List (List Term) → List (List Term) → Type 0
HasGeneratorsIn Whole gens entries = length gens ≤ length entries
HasGeneratorsIn (Trimmed items) gens entries = Unit {0}

abbrev pub HasGenerators : List (List Term) → State → Type 0
HasGenerators gens s = HasGeneratorsIn s.version gens s.entries

-- a seal is an item, as each entry is
abbrev pub seals : Phase → ℕ
seals Title = 0
seals Presentation = 0
seals phases.Items = 0
seals Entries = 0
seals Sealed = 1
seals Closing = 0
seals Finished = 0

abbrev pub items : State → ℕ
items s = length s.entries + seals s.phase

-- the multiple of the step is in reach, if the step names one of the entries
abbrev pub IsNear : List (List Term) → Step → Type 0
IsNear entries s = s.by < length entries → HasRoom s.t (vector_at entries s.by)

abbrev pub AreNear : List (List Term) → List Step → Type 0
AreNear entries steps = AllByRecursion (IsNear entries) steps

-- the entry with number i in the history may be made so: the generators come first there
abbrev pub IsInTurnAt : List (List Term) → List (List Term) → ℕ → Made → Type 0
IsInTurnAt gens entries i (Gen negated) = i < length gens
IsInTurnAt gens entries i (Sum steps) = (length gens ≤ i) × AreNear entries steps

-- and so may the next entry of a whole report
abbrev pub IsInTurn : List (List Term) → List (List Term) → Made → Type 0
IsInTurn gens entries made = IsInTurnAt gens entries (length entries) made

-- the entry with number i in the history may be the next one that a trimmed report has
abbrev pub IsNextIn : Version → ℕ → ℕ → Type 0
IsNextIn Whole passed i = ⊥
IsNextIn (Trimmed items) passed i = (passed ≤ i) × (i < items)

-- an answer may be made by so many items of the history: in a whole report by all that stand before
abbrev pub IsFrontIn : Version → List (List Term) → State → ℕ → Type 0
IsFrontIn Whole gens s front = (length gens ≤ length s.entries) × (front ≡ items s)
IsFrontIn (Trimmed items) gens s front = (length gens ≤ front) × (s.passed ≤ front) × (front ≤ items)

abbrev pub IsFront : List (List Term) → State → ℕ → Type 0
IsFront gens s front = IsFrontIn s.version gens s front

-- the line may follow; an entry has the form that it has in a whole report
abbrev pub MayFollow : List (List Term) → State → Line → Type 0
MayFollow gens s (lines.Entry number made vector) = (s.phase ≡ Entries) × IsSettled s × (number ≡ length s.entries)
    × IsInTurn gens s.entries made
MayFollow gens s lines.Seal = (s.phase ≡ Entries) × IsSettled s × HasGenerators gens s
MayFollow gens s (lines.Live session number front question verdict) =
    IsOpen s.phase × IsSettled s × IsFront gens s front × HasImages question
MayFollow gens s (lines.Proof subject steps) = (s.shown < length s.subjects) × (subject ≡ s.shown + 1)
    × AreNear s.entries steps
MayFollow gens s (lines.End end) = IsOpen s.phase × IsSettled s × HasGenerators gens s
MayFollow gens s (lines.Close session number question verdict) = (s.phase ≡ Closing) × IsSettled s × HasImages question
MayFollow gens s lines.Done = (s.phase ≡ Closing) × IsSettled s

-- the line of a report of either version may follow
abbrev pub LineFollows : List (List Term) → State → TrimmedLine → Type 0
LineFollows gens s (Entry number from made vector) = (s.phase ≡ Entries) × IsSettled s × (number ≡ length s.entries)
    × IsNextIn s.version s.passed from × IsInTurnAt gens s.entries from made
LineFollows gens s (Other l) = MayFollow gens s l

-- the subjects that have to be shown for a verdict
abbrev pub asked : Question → Verdict → List (List Letter)
asked q verdicts.Trivial = subjects q
asked q verdicts.NotTrivial = []
asked q (verdicts.Normal v) = []
asked q verdicts.Extends = subjects q
asked q (verdicts.Fails subject) = []
asked q (verdicts.Unknown subject) = []
asked q (verdicts.Stop subject stop) = []

-- what was taken with the line
abbrev pub next : State → Line → State
next s (lines.Entry number made vector) = record s { entries = s.entries ++ vector ∷ [] }
next s lines.Seal = record s { phase = Sealed }
next s (lines.Live session number front question verdict) = record s {
  passed = front;
  subjects = asked question verdict;
  shown = 0;
}
next s (lines.Proof subject steps) = record s { shown = s.shown + 1; proofs = capped (s.proofs + 1) }
next s (lines.End end) = record s { phase = Closing }
next s (lines.Close session number question verdict) = record s { subjects = asked question verdict; shown = 0 }
next s lines.Done = record s { phase = Finished }

abbrev pub with_line : State → TrimmedLine → State
with_line s (Entry number from made vector) = record s { passed = from + 1; entries = s.entries ++ vector ∷ [] }
with_line s (Other l) = next s l

-- ---- what holds of the values of a report over p

-- the coefficients of a recipe's steps are in range
abbrev pub HaveRange : Made → Type 0
HaveRange (Gen negated) = Unit {0}
HaveRange (Sum steps) = AllByRecursion (λ s. InRange s.q) steps

-- words over the presentation, within the limit on composed words
abbrev pub AreWords : Presented → List (List Letter) → Type 0
AreWords p ws = AllByRecursion (λ w. IsOver (length p.names) w × (length w ≤ COMPOSED)) ws
