-- The steps of chains.
use Rattle.std.specs.Prelude.{List}
use Rattle.free_words.specs.declared.letter.Letter.{Letter}
use Rattle.module_vec.specs.declared.places.Term.{Term}
use Rattle.module_vec.specs.declared.steps.Step.{Step}
use Rattle.reduce_cofactor.specs.Answers.{IsRest}
use Rattle.hom_check.specs.Shown.{fox_at}

-- the steps are the chain of the word's Fox vector by b, in order, which meets no limit
abbrev pub AreStepsOf : List (List Term) → List Letter → List Step → Type 0
AreStepsOf b w steps = (rest : List Term) × IsRest b (fox_at w) rest steps
