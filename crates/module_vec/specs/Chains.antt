-- Reduction of a vector by a list of entries: the chain of its steps, its end, and where it stops.
use Rattle.std.specs.Int.{int_div_euclid}
use Rattle.std.specs.Prelude.{◌≡◌, ◌≢◌, ℕ, ◌+◌, ◌<◌, ◌≤◌, pos, List, [], ◌∷◌, length}
use Rattle.laurent_terms.specs.Monomials.{quotient}
use Rattle.module_vec.specs.declared.TheConstants.{TERMS, STEPS}
use Rattle.module_vec.specs.declared.places.Place.{Place}
use Rattle.module_vec.specs.declared.places.Term.{Term}
use Rattle.module_vec.specs.declared.steps.Step.{Step}
use Rattle.module_vec.specs.declared.faults.Stop.{Stop}
use Rattle.module_vec.specs.declared.faults.Stop.TheVariants.{Wide, Long, Deep, Steep}
use Rattle.module_vec.specs.Places.{IsBelow}
use Rattle.module_vec.specs.Vectors.{Coefficients, multiple_at, difference_at}
use Rattle.module_vec.specs.Results.{Nowhere, HasTerms, DifferenceIsWide, StopsBy}
use Rattle.module_vec.specs.Reducers.{IsReducer}
use Rattle.module_vec.specs.Modules.{vector_at}

-- at p a step is due, by entry number i with the lead e. For a positive divisor int_div_euclid rounds down
pub record IsDue (b : List (List Term)) (f : Coefficients) (p : Place) (i : ℕ) (e : Term) (g : List Term) : Type 0 where
  pub reducer : IsReducer b p i e g
  pub moves : int_div_euclid (f p) e.k ≢ pos 0

-- at p no step is due
abbrev pub Rests : List (List Term) → Coefficients → Place → Type 0
Rests b f p = (i : ℕ) (e : Term) (g : List Term) → IsDue b f p i e g → ⊥

-- the step that is next: at the greatest place where one is due
pub record IsNext (b : List (List Term)) (f : Coefficients) (s : Step) : Type 0 where
  pub place : Place
  pub lead : Term
  pub others : List Term
  pub due : IsDue b f place s.by lead others
  pub greatest : (x : Place) → IsBelow place x → Rests b f x
  pub factor : s.q ≡ int_div_euclid (f place) lead.k
  pub monomial : s.t ≡ quotient place.m lead.at.m

-- what a step takes away, and what it leaves
abbrev pub taken_at : List (List Term) → Step → Coefficients
taken_at b s = multiple_at s.q s.t (vector_at b s.by)

abbrev pub after : List (List Term) → Coefficients → Step → Coefficients
after b f s = difference_at f (taken_at b s)

-- the steps lead from f to g, each one the next
abbrev pub Chain : List (List Term) → Coefficients → List Step → Coefficients → Type 0
Chain b f [] g = (x : Place) → g x ≡ f x
Chain b f (s ∷ ss) g = IsNext b f s × Chain b (after b f s) ss g

-- no step is due any more
abbrev pub IsEnd : List (List Term) → Coefficients → Type 0
IsEnd b f = (p : Place) → Rests b f p

-- ---- limits

-- in this step a product or a difference is wide at x
abbrev pub StepIsWide : List (List Term) → Coefficients → Step → Place → Type 0
StepIsWide b f s = DifferenceIsWide f (taken_at b s)

-- the step meets no limit
pub record Goes (b : List (List Term)) (f : Coefficients) (s : Step) : Type 0 where
  pub narrow : Nowhere (StepIsWide b f s)
  pub count : ℕ
  pub terms : HasTerms (after b f s) count
  pub short : count ≤ TERMS

-- a chain none of whose steps meets a limit
abbrev pub Runs : List (List Term) → Coefficients → List Step → Coefficients → Type 0
Runs b f [] g = (x : Place) → g x ≡ f x
Runs b f (s ∷ ss) g = IsNext b f s × Goes b f s × Runs b (after b f s) ss g

-- after so many steps the next one, s, stops the chain
abbrev pub StopsNext : List (List Term) → Coefficients → ℕ → Step → Stop → Type 0
StopsNext b f made s (Wide p n) = (made < STEPS) × StopsBy (made + 1) (StepIsWide b f s) (after b f s) (Wide p n)
StopsNext b f made s (Long terms n) = (made < STEPS)
    × StopsBy (made + 1) (StepIsWide b f s) (after b f s) (Long terms n)
StopsNext b f made s Deep = made ≡ STEPS
StopsNext b f made s (Steep d) = ⊥

-- the chain of f stops, for the reason given
pub record ChainStops (b : List (List Term)) (f : Coefficients) (stop : Stop) : Type 0 where
  pub steps : List Step
  pub last : Coefficients
  pub step : Step
  pub runs : Runs b f steps last
  pub next : IsNext b last step
  pub stops : StopsNext b last (length steps) step stop
