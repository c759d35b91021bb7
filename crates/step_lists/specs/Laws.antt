-- What steps add up to.
use Rattle.std.specs.Prelude.{◌≡◌, ◌+ℤ◌, List}
use Rattle.module_vec.specs.declared.places.Place.{Place}
use Rattle.module_vec.specs.declared.places.Term.{Term}
use Rattle.module_vec.specs.declared.steps.Step.{Step}
use Rattle.module_vec.specs.Vectors.{Coefficients, coefficient_at}
use Rattle.module_vec.specs.Modules.{steps_at}
use Rattle.step_lists.specs.Sums.{Adds, Takes, zero_vector, IsValue}

-- where steps are added to f, the result is f and their sum
abbrev pub AddingAddsUp : Type 0
AddingAddsUp = (b : List (List Term)) (f g : Coefficients) (steps : List Step) → Adds b f steps g → (x : Place)
    → g x ≡ f x +ℤ steps_at b steps x

-- where steps are taken from f, f is their sum and the result
abbrev pub TakingTakesAway : Type 0
TakingTakesAway = (b : List (List Term)) (f g : Coefficients) (steps : List Step) → Takes b f steps g → (x : Place)
    → f x ≡ steps_at b steps x +ℤ g x

-- a vector from which steps take all is their sum
abbrev pub ProvenVectorsAreSums : Type 0
ProvenVectorsAreSums = (b : List (List Term)) (f : Coefficients) (steps : List Step) → Takes b f steps zero_vector
    → (x : Place) → f x ≡ steps_at b steps x

-- the value of a recipe is the sum of its steps
abbrev pub ValuesAreSums : Type 0
ValuesAreSums = (b : List (List Term)) (v : List Term) (steps : List Step) → IsValue b steps v → (x : Place)
    → coefficient_at v x ≡ steps_at b steps x
