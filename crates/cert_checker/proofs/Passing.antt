-- Steps over the entries, one after another.
use Rattle.std.proofs.Common.{◌≡◌, ◌<◌, ◌≤◌, List, [], ◌∷◌, length, refl, sym, ap, subst, inl, inr}
use Rattle.std.specs.Prelude.{Result, Ok, Err}
use Rattle.module_vec.specs.declared.places.Place.{Place}
use Rattle.module_vec.specs.declared.places.Term.{Term}
use Rattle.module_vec.specs.declared.steps.Step.{Step}
use Rattle.module_vec.specs.Vectors.{Coefficients, coefficient_at, multiple_at}
use Rattle.module_vec.specs.Results.{Nowhere, HasTerms, IsMade}
use Rattle.module_vec.specs.Modules.{vector_at}
use Rattle.module_vec.specs.Chains.{taken_at}
use Rattle.step_lists.specs.declared.way.Way.{Way}
use Rattle.step_lists.specs.declared.faults.SumFault.{SumFault}
use Rattle.step_lists.specs.declared.faults.SumFault.TheVariants as sums
use Rattle.step_lists.specs.Sums.{combined, passed, IsWideAt, CanPass}
use Rattle.step_lists.specs.Partial.{Combines}
use Rattle.cert_checker.specs.declared.faults.CertKind.TheVariants.{Text, NoEntry, NotEqual, NotZero}
use Rattle.cert_checker.specs.declared.faults.LineFault.{LineFault}
use Rattle.cert_checker.specs.declared.faults.LineFault.TheVariants as faults
use Rattle.cert_checker.specs.Faults.{OfSum}
use Rattle.cert_checker.specs.Checking.{StepsLead, StepsFail, Outcome}

-- what comes of steps from f on
abbrev pub Passes : Way → List (List Term) → Coefficients → List Step → Result (List Term) LineFault → Type 0
Passes way b f steps r = Outcome (λ v. StepsLead way b f steps (coefficient_at v)) (StepsFail way b f steps) r

module _ (way : Way) (b : List (List Term)) (f : Coefficients) (s : Step) (ss : List Step) where
  pub none_there : length b ≤ s.by → Passes way b f (s ∷ ss) (Err (faults.Fails NoEntry))
  none_there le = inl le

  module _ (g : List Term) (there : s.by < length b) (named : g ≡ vector_at b s.by) where
    same : multiple_at s.q s.t g ≡ taken_at b s
    same = ap (multiple_at s.q s.t) named

    -- the step that can be made
    module _ (v : List Term) (made : Combines way f (multiple_at s.q s.t g) (Ok v)) where
      is_made : IsMade (IsWideAt way f (taken_at b s)) (passed way b f s) v
      is_made = subst (λ m. IsMade (IsWideAt way f m) (combined way f m) v) same made

      can : CanPass way b f s
      can = record {
        narrow = is_made.narrow;
        count = length v;
        terms = record { v = v; sparse = is_made.vector.sparse; is = is_made.is; count = refl };
        short = is_made.vector.most;
      }

      reached : coefficient_at v ≡ passed way b f s
      reached i x = is_made.is x i

      pub one_more : (r : Result (List Term) LineFault) → Passes way b (coefficient_at v) ss r → Passes way b f (s ∷ ss) r
      one_more (Ok w) h = let l = subst (λ c. StepsLead way b c ss (coefficient_at w)) reached h in ((there, l.0), (can, l.1))
      one_more (Err (faults.Fails k)) h = inr (there, can, subst (λ c. StepsFail way b c ss k) reached h)
      one_more (Err faults.NoMemory) h = tt

    -- the step that fails
    pub step_fails : (e : SumFault) (l : LineFault) → Combines way f (multiple_at s.q s.t g) (Err e) → OfSum e l → Passes way b f (s ∷ ss) (Err l)
    step_fails sums.Wide l h is = subst (λ (x : LineFault). Passes way b f (s ∷ ss) (Err x)) (sym is)
        (inl (there, (h.0, subst (λ m. IsWideAt way f m h.0) same h.1)))
    step_fails sums.Long l h is = subst (λ (x : LineFault). Passes way b f (s ∷ ss) (Err x)) (sym is) (inl (
      there,
      subst (λ m. Nowhere (IsWideAt way f m)) same h.0,
      (h.1.0, subst (λ m. HasTerms (combined way f m) h.1.0) same h.1.1, h.1.2),
    ))
    step_fails sums.NoMemory l h is = subst (λ (x : LineFault). Passes way b f (s ∷ ss) (Err x)) (sym is) tt

-- no step fails in another way
pub never_text : (way : Way) (b : List (List Term)) (f : Coefficients) (steps : List Step) → StepsFail way b f steps Text → ⊥
never_text way b f [] h = h
never_text way b f (s ∷ ss) (inl h) = h
never_text way b f (s ∷ ss) (inr h) = never_text way b (passed way b f s) ss h.2

pub never_unequal : (way : Way) (b : List (List Term)) (f : Coefficients) (steps : List Step) (at : Place) → StepsFail way b f steps (NotEqual at) → ⊥
never_unequal way b f [] at h = h
never_unequal way b f (s ∷ ss) at (inl h) = h
never_unequal way b f (s ∷ ss) at (inr h) = never_unequal way b (passed way b f s) ss at h.2

pub never_left : (way : Way) (b : List (List Term)) (f : Coefficients) (steps : List Step) (at : Place) → StepsFail way b f steps (NotZero at) → ⊥
never_left way b f [] at h = h
never_left way b f (s ∷ ss) at (inl h) = h
never_left way b f (s ∷ ss) at (inr h) = never_left way b (passed way b f s) ss at h.2
