-- What entries and proofs come to.
use Rattle.std.proofs.Common.{◌≡◌, ℕ, List, [], subst}
use Rattle.std.specs.Prelude.{Err}
use Rattle.free_words.specs.declared.letter.Letter.{Letter}
use Rattle.module_vec.specs.declared.places.Term.{Term}
use Rattle.module_vec.specs.declared.steps.Step.{Step}
use Rattle.module_vec.specs.Vectors.{Coefficients, coefficient_at}
use Rattle.step_lists.specs.declared.way.Way.{Way}
use Rattle.step_lists.specs.declared.way.Way.TheVariants.{Add, Take}
use Rattle.step_lists.specs.Sums.{zero_vector}
use Rattle.fox_calculus.specs.Fox.{fox}
use Rattle.fox_calculus.specs.Generators.{IsWritten}
use Rattle.report_lines.specs.declared.lines.Made.TheVariants as made
use Rattle.report_lines.specs.declared.lines.Line.{Line}
use Rattle.report_lines.specs.declared.lines.Line.TheVariants as lines
use Rattle.report_lines.specs.declared.trimmed.TrimmedLine.{TrimmedLine}
use Rattle.report_lines.specs.declared.trimmed.TrimmedLine.TheVariants.{Entry, Other}
use Rattle.cert_checker.specs.declared.faults.CertKind.{CertKind}
use Rattle.cert_checker.specs.declared.faults.CertKind.TheVariants.{Text, NoEntry, NotEqual, NotZero, Wide, Long}
use Rattle.cert_checker.specs.declared.faults.LineFault.{LineFault}
use Rattle.cert_checker.specs.declared.faults.LineFault.TheVariants as faults
use Rattle.cert_checker.specs.States.{State, LineFollows}
use Rattle.cert_checker.specs.Checking.{StepsLead, Outcome, IsMadeAt, EntryFailsAt, fox_at, ProofFails, Disagrees, LineDisagrees, LineFails, TakesLine}
use Rattle.cert_checker.proofs.Passing.{Passes, never_text, never_unequal, never_left}

from_zero : (v : List Term) → v ≡ [] → coefficient_at v ≡ zero_vector
from_zero v e i x = coefficient_at (e i) x

-- a recipe whose steps fail
pub recipe_fails : (gens entries : List (List Term)) (i : ℕ) (steps : List Step) (v none : List Term) (e : LineFault) → none ≡ []
    → Passes Add entries (coefficient_at none) steps (Err e)
    → Outcome {X = Unit {0}} (λ _. IsMadeAt gens entries i (made.Sum steps) (coefficient_at v)) (EntryFailsAt gens entries i (made.Sum steps) v) (Err e)
recipe_fails gens entries i steps v none e is h = by e (subst (λ f. Passes Add entries f steps (Err e)) (from_zero none is) h)
  where
    by : (e : LineFault) → Passes Add entries zero_vector steps (Err e)
        → Outcome {X = Unit {0}} (λ _. IsMadeAt gens entries i (made.Sum steps) (coefficient_at v)) (EntryFailsAt gens entries i (made.Sum steps) v) (Err e)
    by (faults.Fails Text) h = never_text Add entries zero_vector steps h
    by (faults.Fails NoEntry) h = h
    by (faults.Fails (NotEqual at)) h = absurd (never_unequal Add entries zero_vector steps at h)
    by (faults.Fails (NotZero at)) h = never_left Add entries zero_vector steps at h
    by (faults.Fails Wide) h = h
    by (faults.Fails Long) h = h
    by faults.NoMemory h = tt

pub leads_from_zero : (entries : List (List Term)) (steps : List Step) (none : List Term) (f : Coefficients) → none ≡ []
    → StepsLead Add entries (coefficient_at none) steps f → StepsLead Add entries zero_vector steps f
leads_from_zero entries steps none f is h = subst (λ g. StepsLead Add entries g steps f) (from_zero none is) h

-- a proof whose steps fail
is_fox : (w : List Letter) (v : List Term) → IsWritten (fox w) v → coefficient_at v ≡ fox_at w
is_fox w v h i x = h.same x i

pub proof_fails : (entries : List (List Term)) (w : List Letter) (v : List Term) (steps : List Step) (e : LineFault) → IsWritten (fox w) v
    → Passes Take entries (coefficient_at v) steps (Err e)
    → Outcome {X = Unit {0}} (λ _. StepsLead Take entries (fox_at w) steps zero_vector) (ProofFails entries w steps) (Err e)
proof_fails entries w v steps e written h = by e (subst (λ f. Passes Take entries f steps (Err e)) (is_fox w v written) h)
  where
    by : (e : LineFault) → Passes Take entries (fox_at w) steps (Err e)
        → Outcome {X = Unit {0}} (λ _. StepsLead Take entries (fox_at w) steps zero_vector) (ProofFails entries w steps) (Err e)
    by (faults.Fails Text) h = never_text Take entries (fox_at w) steps h
    by (faults.Fails NoEntry) h = h
    by (faults.Fails (NotEqual at)) h = never_unequal Take entries (fox_at w) steps at h
    by (faults.Fails (NotZero at)) h = absurd (never_left Take entries (fox_at w) steps at h)
    by (faults.Fails Wide) h = h
    by (faults.Fails Long) h = h
    by faults.NoMemory h = tt

pub leads_from_fox : (entries : List (List Term)) (w : List Letter) (v : List Term) (steps : List Step) (f : Coefficients) → IsWritten (fox w) v
    → StepsLead Take entries (coefficient_at v) steps f → StepsLead Take entries (fox_at w) steps f
leads_from_fox entries w v steps f written h = subst (λ g. StepsLead Take entries g steps f) (is_fox w v written) h

-- nothing is left
pub leads_to_zero : (way : Way) (entries : List (List Term)) (f : Coefficients) (steps : List Step) (v : List Term) → v ≡ []
    → StepsLead way entries f steps (coefficient_at v) → StepsLead way entries f steps zero_vector
leads_to_zero way entries f steps v is h = subst (StepsLead way entries f steps) (from_zero v is) h

-- ---- lines

never_by_text : (gens : List (List Term)) (s : State) (l : Line) → Disagrees gens s l Text → ⊥
never_by_text gens s (lines.Entry number m vector) h = h
never_by_text gens s lines.Seal h = h
never_by_text gens s (lines.Live session number front question verdict) h = h
never_by_text gens s (lines.Proof subject steps) h = h
never_by_text gens s (lines.End end) h = h
never_by_text gens s (lines.Close session number question verdict) h = h
never_by_text gens s lines.Done h = h

never_so : (gens : List (List Term)) (s : State) (l : TrimmedLine) → LineDisagrees gens s l Text → ⊥
never_so gens s (Entry number from m vector) h = h
never_so gens s (Other l) h = never_by_text gens s l h

-- a line that may follow, and doesn't agree
pub line_fails : (gens : List (List Term)) (s : State) (l : TrimmedLine) (k : CertKind) → LineFollows gens s l → LineDisagrees gens s l k → LineFails gens s l k
line_fails gens s l Text follows h = absurd (never_so gens s l h)
line_fails gens s l NoEntry follows h = (follows, h)
line_fails gens s l (NotEqual at) follows h = (follows, h)
line_fails gens s l (NotZero at) follows h = (follows, h)
line_fails gens s l Wide follows h = (follows, h)
line_fails gens s l Long follows h = (follows, h)

pub line_ends : (gens : List (List Term)) (s : State) (l : TrimmedLine) (A : Unit {0} → Type 0) (e : LineFault) → LineFollows gens s l
    → Outcome {X = Unit {0}} A (LineDisagrees gens s l) (Err e) → TakesLine gens s l (Err e)
line_ends gens s l A (faults.Fails k) follows h = line_fails gens s l k follows h
line_ends gens s l A faults.NoMemory follows h = tt
