-- What a step leads to, and how the sum parts from a vector.
use Rattle.std.specs.Prelude.{◌≡◌, ◌≢◌, ◌⊎◌, ℕ, ◌<◌, List, Option, Some, None, Result, Ok, Err}
use Rattle.module_vec.specs.declared.TheConstants.{TERMS}
use Rattle.module_vec.specs.declared.places.Place.{Place}
use Rattle.module_vec.specs.declared.places.Term.{Term}
use Rattle.module_vec.specs.Places.{IsBelow}
use Rattle.module_vec.specs.Vectors.{Coefficients, coefficient_at}
use Rattle.module_vec.specs.Results.{Nowhere, HasTerms, IsMade}
use Rattle.changed_terms.specs.declared.faults.TakeFault.{TakeFault}
use Rattle.changed_terms.specs.declared.faults.TakeFault.TheVariants as taking
use Rattle.step_lists.specs.declared.way.Way.{Way}
use Rattle.step_lists.specs.declared.faults.SumFault.{SumFault}
use Rattle.step_lists.specs.declared.faults.SumFault.TheVariants.{Wide, Long, NoMemory}
use Rattle.step_lists.specs.Sums.{combined, IsWideAt}

-- the vector f, or why there is none, where P says at which places a number leaves the range
abbrev pub Makes : (Place → Type 0) → Coefficients → Result (List Term) SumFault → Type 0
Makes P f (Ok v) = IsMade P f v
Makes P f (Err Wide) = (x : Place) × P x
Makes P f (Err Long) = Nowhere P × ((n : ℕ) × HasTerms f n × (TERMS < n))
Makes P f (Err NoMemory) = Unit {0}

-- f with g added to it or taken from it, or why there is no such vector
abbrev pub Combines : Way → Coefficients → Coefficients → Result (List Term) SumFault → Type 0
Combines way f g r = Makes (IsWideAt way f g) (combined way f g) r

-- v and w differ at x
abbrev pub Differ : List Term → List Term → Place → Type 0
Differ v w x = coefficient_at v x ≢ coefficient_at w x

-- p is the greater one of two places
abbrev pub IsGreater : Place → Place → Place → Type 0
IsGreater x y p = ((p ≡ x) × (IsBelow x y → ⊥)) ⊎ ((p ≡ y) × IsBelow x y)

-- falling terms that begin with these two differ at p, and not above it
abbrev pub IsParting : Option Term → Term → Place → Type 0
IsParting None u p = p ≡ u.at
IsParting (Some t) u p = (t ≢ u) × IsGreater t.at u.at p

-- the fault of taking a multiple, without its place
abbrev pub fault_of : TakeFault → SumFault
fault_of (taking.Wide p) = Wide
fault_of taking.NoMemory = NoMemory
