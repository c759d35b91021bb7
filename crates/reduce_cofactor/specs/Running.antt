-- A reduction on its way: the terms that were passed and the dividend below them are one vector of the chain.
use Rattle.std.specs.Prelude.{◌≡◌, ◌≢◌, ◌≤◌, ◌+◌, ◌⊎◌, ℤ, pos, ℕ, List, [], ◌∷◌, ◌++◌, Option, Some, None, length, take}
use Rattle.std.specs.Prelude.{drop}
use Rattle.module_vec.specs.declared.TheConstants.{TERMS, STEPS}
use Rattle.module_vec.specs.declared.places.Place.{Place}
use Rattle.module_vec.specs.declared.places.Term.{Term}
use Rattle.module_vec.specs.declared.steps.Step.{Step}
use Rattle.module_vec.specs.declared.faults.Stop.{Stop}
use Rattle.module_vec.specs.declared.faults.Stop.TheVariants.{Wide, Long, Deep, Steep}
use Rattle.module_vec.specs.declared.faults.VecFault.{VecFault}
use Rattle.module_vec.specs.declared.faults.VecFault.TheVariants as vector
use Rattle.changed_terms.specs.declared.faults.TakeFault.{TakeFault}
use Rattle.changed_terms.specs.declared.faults.TakeFault.TheVariants as taking
use Rattle.reduce_cofactor.specs.declared.faults.ReduceFault.{ReduceFault}
use Rattle.reduce_cofactor.specs.declared.faults.ReduceFault.TheVariants as reduction
use Rattle.module_vec.specs.Vectors.{Coefficients, coefficient_at, IsSparse}
use Rattle.module_vec.specs.Reducers.{AreEntries}
use Rattle.module_vec.specs.Modules.{AreSteps}
use Rattle.module_vec.specs.Chains.{Runs, Rests}

pub record Running (b : List (List Term)) (v : Coefficients) (steps : List Step)
    (rest dividend : List Term) : Type 0 where
  pub entries : AreEntries b
  pub sparse : IsSparse (rest ++ dividend)
  pub short : length rest + length dividend ≤ TERMS
  pub runs : Runs b v steps (coefficient_at (rest ++ dividend))
  pub settled : (x : Place) → coefficient_at dividend x ≡ pos 0 → Rests b (coefficient_at (rest ++ dividend)) x
  pub most : length steps ≤ STEPS
  pub are : AreSteps b steps

-- the coefficient k at p is final, and stands behind the others if it isn't 0
abbrev pub IsKept : List Term → Place → ℤ → List Term → Type 0
IsKept old p k new = ((k ≡ pos 0) × (new ≡ old)) ⊎ ((k ≢ pos 0) × (new ≡ old ++ record { at = p; k = k } ∷ []))

-- the first n terms of a vector on its way are final
abbrev pub HasPassed : List (List Term) → Coefficients → List Step → List Term → ℕ → Type 0
HasPassed b v steps row n = (n ≤ length row) × Running b v steps (take n row) (drop n row)

-- the chain of some vector has come to this row
abbrev pub IsOnWay : List (List Term) → List Step → List Term → ℕ → Type 0
IsOnWay b steps row n = (v : Coefficients) × HasPassed b v steps row n

-- what merges made, which before the first is the vector that was given
abbrev pub row_of : List Term → Option (List Term) → List Term
row_of v None = v
row_of v (Some w) = w

-- the same limit, met in the step with this number
abbrev pub stop_at : Stop → ℕ → Stop
stop_at (Wide p m) n = Wide p n
stop_at (Long terms m) n = Long terms n
stop_at Deep n = Deep
stop_at (Steep d) n = Steep d

abbrev pub fault_at : VecFault → ℕ → ReduceFault
fault_at (vector.Stop s) n = reduction.Stop (stop_at s n)
fault_at vector.NoMemory n = reduction.NoMemory

-- the fault of taking a multiple, in the step with this number
abbrev pub fault_in : TakeFault → ℕ → ReduceFault
fault_in (taking.Wide p) n = reduction.Stop (Wide p n)
fault_in taking.NoMemory n = reduction.NoMemory
