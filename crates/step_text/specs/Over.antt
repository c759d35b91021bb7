-- Steps over so many generators.
use Rattle.std.specs.List.{AllByRecursion}
use Rattle.std.specs.Prelude.{◌≢◌, ℕ, ◌<◌, pos, List, length}
use Rattle.spelling.specs.Spelling.{IsSmall}
use Rattle.module_vec.specs.declared.steps.Step.{Step}
use Rattle.module_vec.specs.Vectors.{InRange}
use Rattle.vector_text.specs.Over.{MonoIsOver, IsMonoOf}

-- the coefficient isn't 0 and is in the range, and the monomial is over the generators
pub record StepIsOver (n : ℕ) (s : Step) : Type 0 where
  pub nonzero : s.q ≢ pos 0
  pub range : InRange s.q
  pub mono : MonoIsOver n s.t

abbrev pub StepsAreOver : ℕ → List Step → Type 0
StepsAreOver n ss = AllByRecursion (StepIsOver n) ss

-- what a Step over n generators holds, where its coefficient isn't 0 and is in the range
pub record IsStepOf (n : ℕ) (s : Step) : Type 0 where
  pub nonzero : s.q ≢ pos 0
  pub range : InRange s.q
  pub mono : IsMonoOf n s.t
  pub entry : IsSmall s.by

abbrev pub AreStepsOf : ℕ → List Step → Type 0
AreStepsOf n ss = AllByRecursion (IsStepOf n) ss

-- the same of a list with a step
pub record AreSomeStepsOf (n : ℕ) (ss : List Step) : Type 0 where
  pub steps : AreStepsOf n ss
  pub some : 0 < length ss
