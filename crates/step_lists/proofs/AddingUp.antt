-- What steps add up to.
use Rattle.std.proofs.Common.{◌≡◌, ◌+ℤ◌, List, [], ◌∷◌, arith}
use borrow.Author.Differences.{ints}
use Rattle.formal_sums.proofs.Coefficients.{coefficient-append}
use Rattle.module_vec.specs.declared.places.Place.{Place}
use Rattle.module_vec.specs.declared.places.Term.{Term}
use Rattle.module_vec.specs.declared.steps.Step.{Step}
use Rattle.module_vec.specs.Places.{same_place}
use Rattle.module_vec.specs.Vectors.{coefficient_at, multiple}
use Rattle.module_vec.specs.Modules.{vector_at, sum_of_steps, steps_at}
use Rattle.module_vec.specs.Chains.{taken_at}
use Rattle.step_lists.specs.declared.way.Way.TheVariants.{Add, Take}
use Rattle.step_lists.specs.Sums.{passed, zero_vector}
use Rattle.step_lists.specs.Laws.{AddingAddsUp, TakingTakesAway, ProvenVectorsAreSums, ValuesAreSums}

-- the first step, and the others
first_step : (b : List (List Term)) (s : Step) (ss : List Step) (x : Place) → steps_at b (s ∷ ss) x ≡ taken_at b s x +ℤ steps_at b ss x
first_step b s ss x = coefficient-append same_place (multiple s.q s.t (vector_at b s.by)) (sum_of_steps b ss) x

pub adding_adds_up : AddingAddsUp
adding_adds_up b f g [] a x = let e = a x in omega (arith, ints, e)
adding_adds_up b f g (s ∷ ss) a x =
    let e = adding_adds_up b (passed Add b f s) g ss a.1 x in
    omega (arith, ints, e, first_step b s ss x)

pub taking_takes_away : TakingTakesAway
taking_takes_away b f g [] t x = let e = t x in omega (arith, ints, e)
taking_takes_away b f g (s ∷ ss) t x =
    let e = taking_takes_away b (passed Take b f s) g ss t.1 x in
    omega (arith, ints, e, first_step b s ss x)

pub proven_vectors_are_sums : ProvenVectorsAreSums
proven_vectors_are_sums b f steps t x = let e = taking_takes_away b f zero_vector steps t x in omega (arith, ints, e)

pub values_are_sums : ValuesAreSums
values_are_sums b v steps h x = let e = adding_adds_up b zero_vector (coefficient_at v) steps h.adds x in omega (arith, ints, e)
