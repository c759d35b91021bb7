-- Steps that are added to a vector, or taken from it, one after another.
use Rattle.std.specs.List.{AllByRecursion}
use Rattle.std.specs.Prelude.{◌≡◌, ◌≢◌, ◌⊎◌, ℕ, ◌≤◌, ◌<◌, pos, ◌+ℤ◌, ◌-ℤ◌, List, [], ◌∷◌, length}
use Rattle.module_vec.specs.declared.TheConstants.{TERMS}
use Rattle.module_vec.specs.declared.places.Place.{Place}
use Rattle.module_vec.specs.declared.places.Term.{Term}
use Rattle.module_vec.specs.declared.steps.Step.{Step}
use Rattle.module_vec.specs.Vectors.{Coefficients, coefficient_at, IsWide, IsVector, HasRoom}
use Rattle.module_vec.specs.Results.{Nowhere, HasTerms}
use Rattle.module_vec.specs.Modules.{vector_at}
use Rattle.module_vec.specs.Chains.{taken_at}
use Rattle.step_lists.specs.declared.way.Way.{Way}
use Rattle.step_lists.specs.declared.way.Way.TheVariants.{Add, Take}

-- f with g added to it, or taken from it
abbrev pub combined : Way → Coefficients → Coefficients → Coefficients
combined Add f g x = f x +ℤ g x
combined Take f g x = f x -ℤ g x

-- there the product or the result leaves the range at x
abbrev pub IsWideAt : Way → Coefficients → Coefficients → Place → Type 0
IsWideAt way f g x = IsWide (g x) ⊎ IsWide (combined way f g x)

-- f after the step
abbrev pub passed : Way → List (List Term) → Coefficients → Step → Coefficients
passed way b f s = combined way f (taken_at b s)

-- the step can be made: nothing leaves the range, and there aren't too many terms then
pub record CanPass (way : Way) (b : List (List Term)) (f : Coefficients) (s : Step) : Type 0 where
  pub narrow : Nowhere (IsWideAt way f (taken_at b s))
  pub count : ℕ
  pub terms : HasTerms (passed way b f s) count
  pub short : count ≤ TERMS

-- the steps, one after another, lead from f to g
abbrev pub Leads : Way → List (List Term) → Coefficients → List Step → Coefficients → Type 0
Leads way b f [] g = (x : Place) → g x ≡ f x
Leads way b f (s ∷ ss) g = CanPass way b f s × Leads way b (passed way b f s) ss g

-- the steps, added to f one after another, lead to g
abbrev pub Adds : List (List Term) → Coefficients → List Step → Coefficients → Type 0
Adds = Leads Add

-- the steps, taken from f one after another, lead to g
abbrev pub Takes : List (List Term) → Coefficients → List Step → Coefficients → Type 0
Takes = Leads Take

-- the step names a vector of the list, and its multiple is in reach
pub record IsInReach (b : List (List Term)) (s : Step) : Type 0 where
  pub number : s.by < length b
  pub room : HasRoom s.t (vector_at b s.by)

-- the vector without terms
abbrev pub zero_vector : Coefficients
zero_vector x = pos 0

-- v is the value of a recipe: the sum of its steps, none of them with the factor 0, over vectors of the list
pub record IsValue (b : List (List Term)) (steps : List Step) (v : List Term) : Type 0 where
  pub vector : IsVector v
  pub nonzero : AllByRecursion (λ s. s.q ≢ pos 0) steps
  pub reach : AllByRecursion (IsInReach b) steps
  pub adds : Adds b zero_vector steps (coefficient_at v)
