-- The steps of a subject's chain.
use Rattle.std.proofs.Common.{◌≡◌, pos, List, [], subst}
use borrow.Author.Differences.{ints}
use Rattle.std.proofs.Common.{arith}
use Rattle.free_words.specs.declared.letter.Letter.{Letter}
use Rattle.module_vec.specs.declared.places.Place.{Place}
use Rattle.module_vec.specs.declared.places.Term.{Term}
use Rattle.module_vec.specs.declared.steps.Step.{Step}
use Rattle.module_vec.specs.Modules.{steps_at}
use Rattle.module_vec.specs.Vectors.{Coefficients, coefficient_at}
use Rattle.module_vec.proofs.Determined.{same_end, runs_are_chains}
use Rattle.fox_calculus.specs.Fox.{fox}
use Rattle.fox_calculus.specs.Generators.{IsWritten}
use Rattle.reduce_cofactor.specs.declared.faults.ReduceFault.{ReduceFault}
use Rattle.reduce_cofactor.specs.Answers.{IsRest, Fails}
use Rattle.hom_check.specs.Shown.{fox_at, IsShown}
use Rattle.hom_check.proofs.Chaining.{written_at}
use Rattle.session_core.specs.Proofs.{AreStepsOf}

pub steps_of : (b : List (List Term)) (w u : List Letter) (v rest : List Term) (steps : List Step) → u ≡ w → IsWritten (fox u) v
    → IsRest b (coefficient_at v) rest steps → AreStepsOf b w steps
steps_of b w u v rest steps same is chain =
    subst (λ (z : List Letter). AreStepsOf b z steps) same (rest, subst (λ (f : Coefficients). IsRest b f rest steps) (written_at u v is) chain)

pub fails_of : (b : List (List Term)) (w u : List Letter) (v : List Term) (fault : ReduceFault) → u ≡ w → IsWritten (fox u) v → Fails b (coefficient_at v) fault
    → Fails b (fox_at w) fault
fails_of b w u v fault same is fails =
    subst (λ (z : List Letter). Fails b (fox_at z) fault) same (subst (λ (f : Coefficients). Fails b f fault) (written_at u v is) fails)

-- where the chain ends at zero its steps add up to the Fox vector
pub steps_add_up : (b : List (List Term)) (w : List Letter) (steps : List Step) → AreStepsOf b w steps → IsShown b w → (x : Place)
    → fox_at w x ≡ steps_at b steps x
steps_add_up b w steps of shown x =
    let chain : IsRest b (fox_at w) of.0 steps = of.1 in
    let zero_chain : IsRest b (fox_at w) [] shown.0 = shown.1 in
    let ends = same_end b steps shown.0 (fox_at w) (coefficient_at of.0) (coefficient_at [])
    (runs_are_chains b steps (fox_at w) (coefficient_at of.0) chain.runs) chain.end (runs_are_chains b shown.0 (fox_at w) (coefficient_at []) zero_chain.runs)
    zero_chain.end in
    let sum = chain.sum x in
    let none : coefficient_at of.0 x ≡ pos 0 = ends.1 x in
    omega (arith, ints, sum, none)
