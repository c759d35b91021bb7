-- What a reduction answers: the end of its chain with the steps, or the limit at which the chain stops.
use Rattle.std.specs.Prelude.{◌≡◌, ◌≤◌, ◌+ℤ◌, List, length}
use Rattle.module_vec.specs.declared.TheConstants.{STEPS}
use Rattle.module_vec.specs.declared.places.Place.{Place}
use Rattle.module_vec.specs.declared.places.Term.{Term}
use Rattle.module_vec.specs.declared.steps.Step.{Step}
use Rattle.module_vec.specs.Vectors.{Coefficients, coefficient_at, IsVector}
use Rattle.module_vec.specs.Modules.{AreSteps, steps_at}
use Rattle.module_vec.specs.Chains.{Runs, IsEnd, ChainStops}
use Rattle.reduce_cofactor.specs.declared.faults.ReduceFault.{ReduceFault}
use Rattle.reduce_cofactor.specs.declared.faults.ReduceFault.TheVariants.{Stop, NoMemory}

-- the chain of f by b has these steps, meets no limit, and ends in the vector w
pub record IsRest (b : List (List Term)) (f : Coefficients) (w : List Term) (steps : List Step) : Type 0 where
  pub vector : IsVector w
  pub runs : Runs b f steps (coefficient_at w)
  pub end : IsEnd b (coefficient_at w)
  pub most : length steps ≤ STEPS
  pub are : AreSteps b steps
  pub sum : (x : Place) → f x ≡ steps_at b steps x +ℤ coefficient_at w x

-- why the chain of f by b gives no rest
abbrev pub Fails : List (List Term) → Coefficients → ReduceFault → Type 0
Fails b f (Stop s) = ChainStops b f s
Fails b f NoMemory = Unit {0}
