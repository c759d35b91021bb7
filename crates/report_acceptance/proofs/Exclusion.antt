-- A line that holds doesn't fail.
use Rattle.std.proofs.Common.{◌≡◌, inl, inr, ℕ, ◌<◌, List, [], ◌∷◌, length, sym, ap, ◌∙◌, arith}
use Rattle.module_vec.specs.declared.places.Place.{Place}
use Rattle.module_vec.specs.declared.places.Term.{Term}
use Rattle.module_vec.specs.declared.steps.Step.{Step}
use Rattle.module_vec.specs.Vectors.{Coefficients, coefficient_at}
use Rattle.module_vec.specs.Results.{HasTerms}
use Rattle.module_vec.proofs.Determined.{same_vector}
use Rattle.step_lists.specs.declared.way.Way.{Way}
use Rattle.step_lists.specs.declared.way.Way.TheVariants.{Add, Take}
use Rattle.step_lists.specs.Sums.{passed, CanPass, Leads, zero_vector}
use Rattle.report_lines.specs.declared.lines.Made.{Made}
use Rattle.report_lines.specs.declared.lines.Made.TheVariants.{Gen, Sum}
use Rattle.report_lines.specs.declared.lines.Line.{Line}
use Rattle.report_lines.specs.declared.lines.Line.TheVariants as lines
use Rattle.report_lines.specs.declared.trimmed.TrimmedLine.{TrimmedLine}
use Rattle.report_lines.specs.declared.trimmed.TrimmedLine.TheVariants.{Entry, Other}
use Rattle.cert_checker.specs.declared.faults.CertKind.{CertKind}
use Rattle.cert_checker.specs.declared.faults.CertKind.TheVariants.{Text, NoEntry, NotEqual, NotZero, Wide, Long}
use Rattle.cert_checker.specs.States.{State, LineFollows}
use Rattle.cert_checker.specs.Checking.{StepFails, StepsFail, StepsLead, IsMadeAt, RecipeFails, EntryFailsAt, PartAt, fox_at, due, Agrees, LineAgrees, Disagrees}
use Rattle.cert_checker.specs.Checking.{LineDisagrees, LineFails}

-- ---- steps

same_count : (f : Coefficients) (m n : ℕ) → HasTerms f m → HasTerms f n → m ≡ n
same_count f m n h k = sym h.count ∙ ap length (same_vector h.v k.v h.sparse k.sparse (λ x. h.is x ∙ sym (k.is x))) ∙ k.count

module _ (way : Way) (b : List (List Term)) where
  step_passes : (f : Coefficients) (s : Step) (k : CertKind) → s.by < length b → CanPass way b f s → StepFails way b f s k → ⊥
  step_passes f s Text there can h = h
  step_passes f s NoEntry there can h = omega (arith, there, h)
  step_passes f s (NotEqual at) there can h = h
  step_passes f s (NotZero at) there can h = h
  step_passes f s Wide there can h = can.narrow h.1.0 h.1.1
  step_passes f s Long there can h = let same = same_count (passed way b f s) h.2.0 can.count h.2.1 can.terms in omega (arith, same, can.short, h.2.2)

  steps_pass : (f : Coefficients) (ss : List Step) (g : Coefficients) (k : CertKind) → StepsLead way b f ss g → StepsFail way b f ss k → ⊥
  steps_pass f [] g k h bad = bad
  steps_pass f (s ∷ ss) g k h (inl bad) = step_passes f s k h.0.0 h.1.0 bad
  steps_pass f (s ∷ ss) g k h (inr bad) = steps_pass (passed way b f s) ss g k (h.0.1, h.1.1) bad.2

  one_end : (f : Coefficients) (ss : List Step) (g h : Coefficients) → Leads way b f ss g → Leads way b f ss h → (x : Place) → g x ≡ h x
  one_end f [] g h l m x = l x ∙ sym (m x)
  one_end f (s ∷ ss) g h l m x = one_end (passed way b f s) ss g h l.1 m.1 x

-- ---- entries and proofs

one_made : (gens entries : List (List Term)) (i : ℕ) (made : Made) (f g : Coefficients) → IsMadeAt gens entries i made f → IsMadeAt gens entries i made g
    → (x : Place) → f x ≡ g x
one_made gens entries i (Gen negated) f g h k x = h x ∙ sym (k x)
one_made gens entries i (Sum steps) f g h k x = one_end Add entries zero_vector steps f g h.1 k.1 x

recipe_passes : (gens entries : List (List Term)) (i : ℕ) (made : Made) (f : Coefficients) (k : CertKind) → IsMadeAt gens entries i made f
    → RecipeFails entries made k → ⊥
recipe_passes gens entries i (Gen negated) f k h bad = bad
recipe_passes gens entries i (Sum steps) f k h bad = steps_pass Add entries zero_vector steps f k h bad

entry_passes : (gens entries : List (List Term)) (i : ℕ) (made : Made) (v : List Term) (k : CertKind) → IsMadeAt gens entries i made (coefficient_at v)
    → EntryFailsAt gens entries i made v k → ⊥
entry_passes gens entries i made v Text h bad = bad
entry_passes gens entries i made v NoEntry h bad = recipe_passes gens entries i made (coefficient_at v) NoEntry h bad
entry_passes gens entries i made v (NotEqual at) h bad = bad.2.here (one_made gens entries i made bad.0 (coefficient_at v) bad.1 h at)
entry_passes gens entries i made v (NotZero at) h bad = bad
entry_passes gens entries i made v Wide h bad = recipe_passes gens entries i made (coefficient_at v) Wide h bad
entry_passes gens entries i made v Long h bad = recipe_passes gens entries i made (coefficient_at v) Long h bad

proof_passes : (entries : List (List Term)) (f : Coefficients) (ss : List Step) (at : Place) (g : Coefficients) → StepsLead Take entries f ss zero_vector
    → StepsLead Take entries f ss g → PartAt g zero_vector at → ⊥
proof_passes entries f ss at g h k part = part.here (one_end Take entries f ss g zero_vector k.1 h.1 at)

-- ---- lines

agrees_only : (gens : List (List Term)) (s : State) (l : Line) (k : CertKind) → Agrees gens s l → Disagrees gens s l k → ⊥
agrees_only gens s (lines.Entry number made vector) k h bad = entry_passes gens s.entries (length s.entries) made vector k h bad
agrees_only gens s lines.Seal k h bad = bad
agrees_only gens s (lines.Live session number front question verdict) k h bad = bad
agrees_only gens s (lines.Proof subject steps) Text h bad = bad
agrees_only gens s (lines.Proof subject steps) NoEntry h bad = steps_pass Take s.entries (fox_at (due s)) steps zero_vector NoEntry h bad
agrees_only gens s (lines.Proof subject steps) (NotEqual at) h bad = bad
agrees_only gens s (lines.Proof subject steps) (NotZero at) h bad = proof_passes s.entries (fox_at (due s)) steps at bad.0 h bad.1 bad.2
agrees_only gens s (lines.Proof subject steps) Wide h bad = steps_pass Take s.entries (fox_at (due s)) steps zero_vector Wide h bad
agrees_only gens s (lines.Proof subject steps) Long h bad = steps_pass Take s.entries (fox_at (due s)) steps zero_vector Long h bad
agrees_only gens s (lines.End end) k h bad = bad
agrees_only gens s (lines.Close session number question verdict) k h bad = bad
agrees_only gens s lines.Done k h bad = bad

so_only : (gens : List (List Term)) (s : State) (l : TrimmedLine) (k : CertKind) → LineAgrees gens s l → LineDisagrees gens s l k → ⊥
so_only gens s (Entry number from made vector) k h bad = entry_passes gens s.entries from made vector k h bad
so_only gens s (Other l) k h bad = agrees_only gens s l k h bad

pub never_fails : (gens : List (List Term)) (s : State) (l : TrimmedLine) (k : CertKind) → LineFollows gens s l → LineAgrees gens s l → LineFails gens s l k → ⊥
never_fails gens s l Text follows h bad = bad follows
never_fails gens s l NoEntry follows h bad = so_only gens s l NoEntry h bad.1
never_fails gens s l (NotEqual at) follows h bad = so_only gens s l (NotEqual at) h bad.1
never_fails gens s l (NotZero at) follows h bad = so_only gens s l (NotZero at) h bad.1
never_fails gens s l Wide follows h bad = so_only gens s l Wide h bad.1
never_fails gens s l Long follows h bad = so_only gens s l Long h bad.1
