-- Whether a line holds, and why it fails.
use Rattle.std.specs.List.{AllByRecursion}
use Rattle.std.specs.Prelude.{◌≡◌, ◌≢◌, ◌⊎◌, ℕ, ◌<◌, ◌≤◌, Bool, neg_ℤ, if◌then◌else◌, List, [], ◌∷◌, length}
use Rattle.std.specs.Prelude.{slice_index_or, Result, Ok, Err}
use Rattle.free_words.specs.declared.letter.Letter.{Letter}
use Rattle.formal_sums.specs.FormalSum.{coefficient}
use Rattle.module_vec.specs.declared.TheConstants.{TERMS}
use Rattle.module_vec.specs.declared.places.Place.{Place}
use Rattle.module_vec.specs.declared.places.Term.{Term}
use Rattle.module_vec.specs.declared.steps.Step.{Step}
use Rattle.module_vec.specs.Places.{same_place}
use Rattle.module_vec.specs.Vectors.{Coefficients, coefficient_at}
use Rattle.module_vec.specs.Results.{Nowhere, HasTerms, IsGreatest}
use Rattle.module_vec.specs.Modules.{vector_at}
use Rattle.module_vec.specs.Chains.{taken_at}
use Rattle.step_lists.specs.declared.way.Way.{Way}
use Rattle.step_lists.specs.declared.way.Way.TheVariants.{Add, Take}
use Rattle.step_lists.specs.Sums.{passed, IsWideAt, CanPass, Leads, zero_vector}
use Rattle.fox_calculus.specs.Fox.{fox}
use Rattle.report_lines.specs.declared.lines.Made.{Made}
use Rattle.report_lines.specs.declared.lines.Made.TheVariants.{Gen, Sum}
use Rattle.report_lines.specs.declared.lines.Line.{Line}
use Rattle.report_lines.specs.declared.lines.Line.TheVariants as lines
use Rattle.report_lines.specs.declared.trimmed.TrimmedLine.{TrimmedLine}
use Rattle.report_lines.specs.declared.trimmed.TrimmedLine.TheVariants.{Entry, Other}
use Rattle.cert_checker.specs.declared.faults.CertKind.{CertKind}
use Rattle.cert_checker.specs.declared.faults.CertKind.TheVariants.{Text, NoEntry, NotEqual, NotZero, Wide, Long}
use Rattle.cert_checker.specs.declared.faults.LineFault.{LineFault}
use Rattle.cert_checker.specs.declared.faults.LineFault.TheVariants as faults
use Rattle.cert_checker.specs.States.{State, LineFollows, with_line}

-- ---- steps

-- this step fails
abbrev pub StepFails : Way → List (List Term) → Coefficients → Step → CertKind → Type 0
StepFails way b f s Text = ⊥
StepFails way b f s NoEntry = length b ≤ s.by
StepFails way b f s (NotEqual at) = ⊥
StepFails way b f s (NotZero at) = ⊥
StepFails way b f s Wide = (s.by < length b) × ((x : Place) × IsWideAt way f (taken_at b s) x)
StepFails way b f s Long = (s.by < length b) × Nowhere (IsWideAt way f (taken_at b s))
    × ((n : ℕ) × HasTerms (passed way b f s) n × (TERMS < n))

-- the steps can be made up to one that fails
abbrev pub StepsFail : Way → List (List Term) → Coefficients → List Step → CertKind → Type 0
StepsFail way b f [] k = ⊥
StepsFail way b f (s ∷ ss) k = StepFails way b f s k ⊎ ((s.by < length b) × CanPass way b f s
    × StepsFail way b (passed way b f s) ss k)

-- the steps name entries alone
abbrev pub AreThere : List (List Term) → List Step → Type 0
AreThere b steps = AllByRecursion (λ s. s.by < length b) steps

-- and they lead to g
abbrev pub StepsLead : Way → List (List Term) → Coefficients → List Step → Coefficients → Type 0
StepsLead way b f steps g = AreThere b steps × Leads way b f steps g

-- ---- entries

-- a generator, or its negative
abbrev pub signed : Bool → List Term → Coefficients
signed negated g x = if negated then neg_ℤ (coefficient_at g x) else coefficient_at g x

-- what the entry with number i in the history is made to be, behind these entries
abbrev pub IsMadeAt : List (List Term) → List (List Term) → ℕ → Made → Coefficients → Type 0
IsMadeAt gens entries i (Gen negated) f = (x : Place) → f x ≡ signed negated (vector_at gens i) x
IsMadeAt gens entries i (Sum steps) f = StepsLead Add entries zero_vector steps f

-- what the next entry of a whole report is made to be
abbrev pub IsMadeOf : List (List Term) → List (List Term) → Made → Coefficients → Type 0
IsMadeOf gens entries made f = IsMadeAt gens entries (length entries) made f

-- its steps fail
abbrev pub RecipeFails : List (List Term) → Made → CertKind → Type 0
RecipeFails entries (Gen negated) k = ⊥
RecipeFails entries (Sum steps) k = StepsFail Add entries zero_vector steps k

-- f and g differ at the place, and not above it
abbrev pub PartAt : Coefficients → Coefficients → Place → Type 0
PartAt f g at = IsGreatest (λ x. f x ≢ g x) at

abbrev pub EntryFailsAt : List (List Term) → List (List Term) → ℕ → Made → List Term → CertKind → Type 0
EntryFailsAt gens entries i made v Text = ⊥
EntryFailsAt gens entries i made v NoEntry = RecipeFails entries made NoEntry
EntryFailsAt gens entries i made v (NotEqual at) = (f : Coefficients) × IsMadeAt gens entries i made f
    × PartAt f (coefficient_at v) at
EntryFailsAt gens entries i made v (NotZero at) = ⊥
EntryFailsAt gens entries i made v Wide = RecipeFails entries made Wide
EntryFailsAt gens entries i made v Long = RecipeFails entries made Long

abbrev pub EntryFails : List (List Term) → List (List Term) → Made → List Term → CertKind → Type 0
EntryFails gens entries made v k = EntryFailsAt gens entries (length entries) made v k

-- ---- proofs

-- the coefficients of the Fox vector of a word
abbrev pub fox_at : List Letter → Coefficients
fox_at w x = coefficient same_place (fox w) x

-- the subject whose proof is due
abbrev pub due : State → List Letter
due s = slice_index_or s.subjects s.shown []

abbrev pub ProofFails : List (List Term) → List Letter → List Step → CertKind → Type 0
ProofFails entries w steps Text = ⊥
ProofFails entries w steps NoEntry = StepsFail Take entries (fox_at w) steps NoEntry
ProofFails entries w steps (NotEqual at) = ⊥
ProofFails entries w steps (NotZero at) = (f : Coefficients) × StepsLead Take entries (fox_at w) steps f
    × PartAt f zero_vector at
ProofFails entries w steps Wide = StepsFail Take entries (fox_at w) steps Wide
ProofFails entries w steps Long = StepsFail Take entries (fox_at w) steps Long

-- ---- lines

-- what the line says of entries and proofs holds
abbrev pub Agrees : List (List Term) → State → Line → Type 0
Agrees gens s (lines.Entry number made vector) = IsMadeOf gens s.entries made (coefficient_at vector)
Agrees gens s lines.Seal = Unit {0}
Agrees gens s (lines.Live session number front question verdict) = Unit {0}
Agrees gens s (lines.Proof subject steps) = StepsLead Take s.entries (fox_at (due s)) steps zero_vector
Agrees gens s (lines.End end) = Unit {0}
Agrees gens s (lines.Close session number question verdict) = Unit {0}
Agrees gens s lines.Done = Unit {0}

-- why it doesn't
abbrev pub Disagrees : List (List Term) → State → Line → CertKind → Type 0
Disagrees gens s (lines.Entry number made vector) k = EntryFails gens s.entries made vector k
Disagrees gens s lines.Seal k = ⊥
Disagrees gens s (lines.Live session number front question verdict) k = ⊥
Disagrees gens s (lines.Proof subject steps) k = ProofFails s.entries (due s) steps k
Disagrees gens s (lines.End end) k = ⊥
Disagrees gens s (lines.Close session number question verdict) k = ⊥
Disagrees gens s lines.Done k = ⊥

-- the same of the line of a report of either version
abbrev pub LineAgrees : List (List Term) → State → TrimmedLine → Type 0
LineAgrees gens s (Entry number from made vector) = IsMadeAt gens s.entries from made (coefficient_at vector)
LineAgrees gens s (Other l) = Agrees gens s l

abbrev pub LineDisagrees : List (List Term) → State → TrimmedLine → CertKind → Type 0
LineDisagrees gens s (Entry number from made vector) k = EntryFailsAt gens s.entries from made vector k
LineDisagrees gens s (Other l) k = Disagrees gens s l k

-- the line fails: first it has to be one that may follow
abbrev pub LineFails : List (List Term) → State → TrimmedLine → CertKind → Type 0
LineFails gens s l Text = LineFollows gens s l → ⊥
LineFails gens s l NoEntry = LineFollows gens s l × LineDisagrees gens s l NoEntry
LineFails gens s l (NotEqual at) = LineFollows gens s l × LineDisagrees gens s l (NotEqual at)
LineFails gens s l (NotZero at) = LineFollows gens s l × LineDisagrees gens s l (NotZero at)
LineFails gens s l Wide = LineFollows gens s l × LineDisagrees gens s l Wide
LineFails gens s l Long = LineFollows gens s l × LineDisagrees gens s l Long

-- the line is taken
pub record LineHolds (gens : List (List Term)) (s : State) (l : TrimmedLine) (taken : State) : Type 0 where
  pub follows : LineFollows gens s l
  pub agrees : LineAgrees gens s l
  pub is : taken ≡ with_line s l

-- what comes of a line, unless memory runs out
abbrev pub Outcome : {X : Type 0} → (X → Type 0) → (CertKind → Type 0) → Result X LineFault → Type 0
Outcome Holds Fails (Ok x) = Holds x
Outcome Holds Fails (Err (faults.Fails k)) = Fails k
Outcome Holds Fails (Err faults.NoMemory) = Unit {0}

abbrev pub TakesLine : List (List Term) → State → TrimmedLine → Result State LineFault → Type 0
TakesLine gens s l r = Outcome (LineHolds gens s l) (LineFails gens s l) r
