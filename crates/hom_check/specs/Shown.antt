-- Which subjects of a question a list of vectors shows to be trivial: those whose Fox vectors it reduces to zero.
use Rattle.std.specs.List.{AllByRecursion}
use Rattle.std.specs.Prelude.{◌≢◌, ℕ, ◌<◌, ◌≤◌, List, [], length}
use Rattle.free_words.specs.declared.letter.Letter.{Letter}
use Rattle.formal_sums.specs.FormalSum.{coefficient}
use Rattle.module_vec.specs.declared.places.Term.{Term}
use Rattle.module_vec.specs.declared.steps.Step.{Step}
use Rattle.module_vec.specs.declared.faults.Stop.{Stop}
use Rattle.module_vec.specs.Places.{same_place}
use Rattle.module_vec.specs.Vectors.{Coefficients}
use Rattle.module_vec.specs.Modules.{InModule}
use Rattle.module_vec.specs.Chains.{ChainStops}
use Rattle.fox_calculus.specs.Fox.{fox}
use Rattle.reduce_cofactor.specs.Answers.{IsRest}
use Rattle.session_text.specs.declared.question.Question.{Question}
use Rattle.session_text.specs.Questions.{subjects}
use Rattle.hom_check.specs.declared.shown.Shown.{Shown}
use Rattle.hom_check.specs.declared.shown.Shown.TheVariants.{All, Rest, Stopped}
use Rattle.hom_check.specs.Subjects.{subject_at}

-- the Fox vector of a word, by its coefficients
abbrev pub fox_at : List Letter → Coefficients
fox_at w x = coefficient same_place (fox w) x

-- the chain of the word's Fox vector by b meets no limit and ends in this vector
abbrev pub EndsIn : List (List Term) → List Term → List Letter → Type 0
EndsIn b rest w = (steps : List Step) × IsRest b (fox_at w) rest steps

-- the word is shown to be trivial: the chain ends in the empty vector
abbrev pub IsShown : List (List Term) → List Letter → Type 0
IsShown b w = EndsIn b [] w

-- the chain ends in this vector, which isn't empty
abbrev pub LeavesRest : List (List Term) → List Term → List Letter → Type 0
LeavesRest b rest w = (rest ≢ []) × EndsIn b rest w

-- the chain stops at a limit
abbrev pub StopsAt : List (List Term) → Stop → List Letter → Type 0
StopsAt b stop w = ChainStops b (fox_at w) stop

-- subject number j is the first that isn't shown, and its chain goes so
pub record IsFirstUnshown (b : List (List Term)) (q : Question) (j : ℕ) (Goes : List Letter → Type 0) : Type 0 where
  pub number : 1 ≤ j
  pub within : j ≤ length (subjects q)
  pub goes : Goes (subject_at q j)
  pub before : (i : ℕ) → 1 ≤ i → i < j → IsShown b (subject_at q i)

-- what the vectors of b show of the subjects of a question
abbrev pub Shows : List (List Term) → Question → Shown → Type 0
Shows b q All = AllByRecursion (IsShown b) (subjects q)
Shows b q (Rest j rest) = IsFirstUnshown b q j (LeavesRest b rest)
Shows b q (Stopped j stop) = IsFirstUnshown b q j (StopsAt b stop)

-- the word's Fox vector is a sum of multiples of vectors of b
abbrev pub IsSum : List (List Term) → List Letter → Type 0
IsSum b w = InModule b (fox_at w)
