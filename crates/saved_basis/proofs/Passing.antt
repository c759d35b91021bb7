-- Steps over a list, one after another.
use Rattle.std.proofs.Common.{◌≡◌, ◌<◌, ◌≤◌, List, [], ◌∷◌, length, refl, ap, subst, inl, inr}
use Rattle.std.specs.Prelude.{Result, Ok, Err}
use Rattle.module_vec.specs.declared.places.Term.{Term}
use Rattle.module_vec.specs.declared.steps.Step.{Step}
use Rattle.module_vec.specs.Vectors.{Coefficients, coefficient_at, multiple_at}
use Rattle.module_vec.specs.Results.{Nowhere, HasTerms, IsMade}
use Rattle.module_vec.specs.Modules.{vector_at}
use Rattle.module_vec.specs.Chains.{taken_at}
use Rattle.step_lists.specs.declared.way.Way.TheVariants.{Add}
use Rattle.step_lists.specs.declared.faults.SumFault.{SumFault}
use Rattle.step_lists.specs.declared.faults.SumFault.TheVariants as sums
use Rattle.step_lists.specs.Sums.{combined, passed, IsWideAt, CanPass, zero_vector}
use Rattle.step_lists.specs.Partial.{Combines}
use Rattle.report_lines.specs.declared.lines.Made.TheVariants as made
use Rattle.cert_checker.specs.Checking.{StepsLead, StepsFail, EntryFails}
use Rattle.cert_checker.proofs.Passing.{never_text, never_unequal}
use Rattle.saved_basis.specs.declared.faults.LineKind.TheVariants.{Text, NoEntry, NotEqual, Wide, Long}
use Rattle.saved_basis.specs.declared.faults.LineFault.{LineFault}
use Rattle.saved_basis.specs.declared.faults.LineFault.TheVariants as faults
use Rattle.saved_basis.specs.Faults.{of_sum}
use Rattle.saved_basis.specs.Lines.{Outcome, as_checked}

-- what comes of steps from f on
abbrev pub Passes : List (List Term) → Coefficients → List Step → Result (List Term) LineFault → Type 0
Passes b f steps r = Outcome (λ v. StepsLead Add b f steps (coefficient_at v)) (λ k. StepsFail Add b f steps (as_checked k)) r

module _ (b : List (List Term)) (f : Coefficients) (s : Step) (ss : List Step) where
  pub none_there : length b ≤ s.by → Passes b f (s ∷ ss) (Err (faults.Fails NoEntry))
  none_there le = inl le

  module _ (g : List Term) (there : s.by < length b) (named : g ≡ vector_at b s.by) where
    same : multiple_at s.q s.t g ≡ taken_at b s
    same = ap (multiple_at s.q s.t) named

    -- the step that can be made
    module _ (v : List Term) (made : Combines Add f (multiple_at s.q s.t g) (Ok v)) where
      is_made : IsMade (IsWideAt Add f (taken_at b s)) (passed Add b f s) v
      is_made = subst (λ m. IsMade (IsWideAt Add f m) (combined Add f m) v) same made

      can : CanPass Add b f s
      can = record {
        narrow = is_made.narrow;
        count = length v;
        terms = record { v = v; sparse = is_made.vector.sparse; is = is_made.is; count = refl };
        short = is_made.vector.most;
      }

      reached : coefficient_at v ≡ passed Add b f s
      reached i x = is_made.is x i

      pub one_more : (r : Result (List Term) LineFault) → Passes b (coefficient_at v) ss r → Passes b f (s ∷ ss) r
      one_more (Ok w) h = let l = subst (λ c. StepsLead Add b c ss (coefficient_at w)) reached h in ((there, l.0), (can, l.1))
      one_more (Err (faults.Fails k)) h = inr (there, can, subst (λ c. StepsFail Add b c ss (as_checked k)) reached h)
      one_more (Err faults.NoMemory) h = tt

    -- the step that fails
    pub step_fails : (e : SumFault) → Combines Add f (multiple_at s.q s.t g) (Err e) → Passes b f (s ∷ ss) (Err (of_sum e))
    step_fails sums.Wide h = inl (there, (h.0, subst (λ m. IsWideAt Add f m h.0) same h.1))
    step_fails sums.Long h = inl (
      there,
      subst (λ m. Nowhere (IsWideAt Add f m)) same h.0,
      (h.1.0, subst (λ m. HasTerms (combined Add f m) h.1.0) same h.1.1, h.1.2),
    )
    step_fails sums.NoMemory h = tt

from_zero : (v : List Term) → v ≡ [] → coefficient_at v ≡ zero_vector
from_zero v e i x = coefficient_at (e i) x

-- from the empty sum on
pub passes_from_zero : (b : List (List Term)) (steps : List Step) (none : List Term) (r : Result (List Term) LineFault) → none ≡ []
    → Passes b (coefficient_at none) steps r → Passes b zero_vector steps r
passes_from_zero b steps none r is h = subst (λ f. Passes b f steps r) (from_zero none is) h

-- a recipe whose steps fail
pub recipe_fails : (gens b : List (List Term)) (steps : List Step) (v : List Term) (e : LineFault) → Passes b zero_vector steps (Err e)
    → Outcome {X = Unit {0}} (λ _. StepsLead Add b zero_vector steps (coefficient_at v)) (λ k. EntryFails gens b (made.Sum steps) v (as_checked k)) (Err e)
recipe_fails gens b steps v (faults.Fails Text) h = never_text Add b zero_vector steps h
recipe_fails gens b steps v (faults.Fails NoEntry) h = h
recipe_fails gens b steps v (faults.Fails (NotEqual at)) h = absurd (never_unequal Add b zero_vector steps at h)
recipe_fails gens b steps v (faults.Fails Wide) h = h
recipe_fails gens b steps v (faults.Fails Long) h = h
recipe_fails gens b steps v faults.NoMemory h = tt
