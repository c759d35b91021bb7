-- The one spelling of steps, over the names of generators.
use Rattle.std.specs.Prelude.{ℕ, List, [], ◌∷◌, ◌++◌, map, codes, decimal}
use Rattle.spelling.specs.Spelling.{coefficient}
use Rattle.presentation.specs.Writing.{joined}
use Rattle.module_vec.specs.declared.steps.Step.{Step}
use Rattle.vector_text.specs.Spelling.{monomial_text}

-- a step: its coefficient, `*`, its monomial, `@`, and the number of the entry
abbrev pub step_text : List (List ℕ) → Step → List ℕ
step_text names s = coefficient s.q ++ (codes "*" ++ (monomial_text names s.t ++ (codes "@" ++ decimal s.by)))

-- `0`, or the steps in their order with spaces between them
abbrev pub steps_text : List (List ℕ) → List Step → List ℕ
steps_text names [] = codes "0"
steps_text names (s ∷ ss) = joined (codes " ") (map (step_text names) (s ∷ ss))

-- the same without the `0`
abbrev pub listed_text : List (List ℕ) → List Step → List ℕ
listed_text names ss = joined (codes " ") (map (step_text names) ss)
