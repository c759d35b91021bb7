-- What a computation with vectors answers: the vector, or the first of its limits that it meets.
use Rattle.std.specs.Prelude.{◌≡◌, ℕ, ◌<◌, ◌⊎◌, ◌-ℤ◌, List, length, Result, Ok, Err}
use Rattle.module_vec.specs.declared.TheConstants.{TERMS}
use Rattle.module_vec.specs.declared.places.Place.{Place}
use Rattle.module_vec.specs.declared.places.Term.{Term}
use Rattle.module_vec.specs.declared.faults.Stop.{Stop}
use Rattle.module_vec.specs.declared.faults.Stop.TheVariants.{Wide, Long, Deep, Steep}
use Rattle.module_vec.specs.declared.faults.VecFault.{VecFault}
use Rattle.module_vec.specs.declared.faults.VecFault.TheVariants as faults
use Rattle.module_vec.specs.Places.{IsBelow}
use Rattle.module_vec.specs.Vectors.{Coefficients, coefficient_at, IsWide, IsSparse, IsVector}

-- v has the coefficients f
abbrev pub Has : List Term → Coefficients → Type 0
Has v f = (x : Place) → coefficient_at v x ≡ f x

-- the greatest place at which P holds
pub record IsGreatest (P : Place → Type 0) (p : Place) : Type 0 where
  pub here : P p
  pub above : (x : Place) → IsBelow p x → P x → ⊥

abbrev pub Nowhere : (Place → Type 0) → Type 0
Nowhere P = (x : Place) → P x → ⊥

-- written as a vector f has n terms
pub record HasTerms (f : Coefficients) (n : ℕ) : Type 0 where
  pub v : List Term
  pub sparse : IsSparse v
  pub is : Has v f
  pub count : length v ≡ n

-- a sum that is wide at x
abbrev pub SumIsWide : Coefficients → Place → Type 0
SumIsWide f x = IsWide (f x)

-- where g is taken from f: the product or the difference is wide at x
abbrev pub DifferenceIsWide : Coefficients → Coefficients → Place → Type 0
DifferenceIsWide f g x = IsWide (g x) ⊎ IsWide (f x -ℤ g x)

-- why a step that leads to f stops, where P says at which places a number leaves the range
abbrev pub StopsBy : ℕ → (Place → Type 0) → Coefficients → Stop → Type 0
StopsBy step P f (Wide p n) = (n ≡ step) × IsGreatest P p
StopsBy step P f (Long terms n) = (n ≡ step) × Nowhere P × HasTerms f terms × (TERMS < terms)
StopsBy step P f Deep = ⊥
StopsBy step P f (Steep d) = ⊥

-- v is the vector f, on the way to which nothing left the range
pub record IsMade (P : Place → Type 0) (f : Coefficients) (v : List Term) : Type 0 where
  pub vector : IsVector v
  pub is : Has v f
  pub narrow : Nowhere P

-- the vector f, or why there is none
abbrev pub Makes : (Place → Type 0) → Coefficients → Result (List Term) VecFault → Type 0
Makes P f (Ok v) = IsMade P f v
Makes P f (Err (faults.Stop s)) = StopsBy 0 P f s
Makes P f (Err faults.NoMemory) = Unit {0}
