-- The step that is due at a term.
use Rattle.std.specs.Int.{int_div_euclid}
use Rattle.std.specs.Prelude.{◌≡◌, ◌≢◌, pos, List}
use Rattle.laurent_terms.specs.Monomials.{quotient}
use Rattle.module_vec.specs.declared.places.Term.{Term}
use Rattle.module_vec.specs.declared.steps.Step.{Step}
use Rattle.module_vec.specs.Vectors.{Coefficients}
use Rattle.module_vec.specs.Reducers.{IsReducer}
use Rattle.module_vec.specs.Chains.{Rests}

-- the step s is due where the term t stands
pub record IsStepAt (b : List (List Term)) (t : Term) (s : Step) : Type 0 where
  pub lead : Term
  pub others : List Term
  pub reducer : IsReducer b t.at s.by lead others
  pub moves : s.q ≢ pos 0
  pub factor : s.q ≡ int_div_euclid t.k lead.k
  pub monomial : s.t ≡ quotient t.at.m lead.at.m

-- no step is due where the term t stands
abbrev pub RestsWith : List (List Term) → Term → Type 0
RestsWith b t = (f : Coefficients) → f t.at ≡ t.k → Rests b f t.at
