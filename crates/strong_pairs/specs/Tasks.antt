-- Tasks: a pair with a kind. A task is closed where the list already has what the pair's vector could add to it.
use Rattle.std.specs.List.{AllByRecursion}
use Rattle.std.specs.Prelude.{◌≡◌, ◌≢◌, ℕ, ◌<◌, ◌⊎◌, pos, List, map, length}
use Rattle.formal_sums.specs.FormalSum.{FormalSum}
use Rattle.laurent_terms.specs.declared.TheConstants.{VARIABLES}
use Rattle.module_vec.specs.declared.places.Place.{Place}
use Rattle.module_vec.specs.declared.places.Term.{Term}
use Rattle.module_vec.specs.declared.steps.Step.{Step}
use Rattle.module_vec.specs.Modules.{steps_at}
use Rattle.module_vec.specs.Places.{IsBelow, moved}
use Rattle.module_vec.specs.Reducers.{Reduces}
use Rattle.module_vec.specs.Vectors.{Coefficients}
use Rattle.outcomes.specs.declared.kinds.PairKind.{PairKind}
use Rattle.outcomes.specs.declared.kinds.PairKind.TheVariants.{S, G}
use Rattle.strong_pairs.specs.Covering.{Divides, Covers}
use Rattle.strong_pairs.specs.Pairs.{lead_at, IsPair, pair_place, ArePairSteps, both_at}

-- the place to which the step carries the lead of its vector
abbrev pub step_place : List (List Term) → Step → Place
step_place b s = moved s.t (lead_at b s.by).at

-- the lead places of the steps, each with its step's factor
abbrev pub step_places : List (List Term) → List Step → FormalSum Place
step_places b ss = map (λ s. (s.q, step_place b s)) ss

-- x is p or lies below it
abbrev pub IsUpTo : Place → Place → Type 0
IsUpTo x p = (x ≡ p) ⊎ IsBelow x p

-- each step has a monomial in all variables and names a vector of the list, and P holds of its lead place
abbrev pub AreStepsAt : (Place → Type 0) → List (List Term) → List Step → Type 0
AreStepsAt P b ss = AllByRecursion (λ s. (length s.t ≡ VARIABLES) × (s.by < length b) × P (step_place b s)) ss

-- the steps' lead places lie below p
abbrev pub AreStepsBelow : List (List Term) → Place → List Step → Type 0
AreStepsBelow b p ss = AreStepsAt (λ x. IsBelow x p) b ss

-- f is a finite sum of multiples of vectors of the list with lead places below p
pub record IsSumBelow (b : List (List Term)) (p : Place) (f : Coefficients) : Type 0 where
  pub steps : List Step
  pub below : AreStepsBelow b p steps
  pub is : (x : Place) → f x ≡ steps_at b steps x

-- the task is truly closed: the S-vector is a sum of multiples with lead places below the pair's place; some entry
-- covers the pair of a G task
abbrev pub IsClosed : List (List Term) → PairKind → ℕ → ℕ → Type 0
IsClosed b S i j = (first second : Step) × ArePairSteps S b i j first second
    × IsSumBelow b (pair_place b i j) (both_at b first second)
IsClosed b G i j = (k : ℕ) × Covers b i j k

-- a G task is closed from the start where one lead coefficient divides the other
abbrev pub IsClosedFromStart : List (List Term) → PairKind → ℕ → ℕ → Type 0
IsClosedFromStart b S i j = ⊥
IsClosedFromStart b G i j = Divides (lead_at b i).k (lead_at b j).k ⊎ Divides (lead_at b j).k (lead_at b i).k

-- every task of the kind is truly closed
abbrev pub AreClosed : List (List Term) → PairKind → Type 0
AreClosed b kind = (i j : ℕ) → IsPair b i j → IsClosed b kind i j

-- every task of the list is truly closed
abbrev pub AllClosed : List (List Term) → Type 0
AllClosed b = (kind : PairKind) → AreClosed b kind

-- f is nonzero only at places in all variables of which P holds
abbrev pub StandsAt : (Place → Type 0) → Coefficients → Type 0
StandsAt P f = (x : Place) → f x ≢ pos 0 → (length x.m ≡ VARIABLES) × P x

-- ---- what closed G tasks give

-- the lead of entry number i divides p
abbrev pub Reaches : List (List Term) → Place → ℕ → Type 0
Reaches b p i = (i < length b) × Reduces (lead_at b i) p

-- the lead of entry number k divides p, and its coefficient divides the lead coefficients of all the numbered entries
pub record DividesAll (b : List (List Term)) (p : Place) (numbers : List ℕ) (k : ℕ) : Type 0 where
  pub reaches : Reaches b p k
  pub divides : AllByRecursion (λ i. Divides (lead_at b k).k (lead_at b i).k) numbers
