-- What verdicts say of words.
use Rattle.std.specs.List.{AllByRecursion}
use Rattle.std.specs.Prelude.{◌≢◌, ℕ, ◌<◌, ◌≤◌, ◌⊎◌, List, [], length}
use Rattle.free_words.specs.declared.letter.Letter.{Letter}
use Rattle.presentation.specs.Presented.{Presented}
use Rattle.derivation.specs.Moves as moves
use Rattle.magnus_laws.specs.Maps as maps
use Rattle.module_vec.specs.declared.places.Term.{Term}
use Rattle.module_vec.specs.Modules.{IsReduced}
use Rattle.module_vec.specs.Vectors.{coefficient_at, IsVector}
use Rattle.fox_calculus.specs.Generators.{AreGenerators}
use Rattle.session_text.specs.declared.question.Question.{Question}
use Rattle.session_text.specs.declared.question.Question.TheVariants as questions
use Rattle.session_text.specs.Questions.{subjects}
use Rattle.hom_check.specs.Subjects.{subject_at}
use Rattle.hom_check.specs.Shown.{fox_at}
use Rattle.outcomes.specs.declared.verdicts.Verdict.{Verdict}
use Rattle.outcomes.specs.declared.verdicts.Verdict.TheVariants.{Trivial, NotTrivial, Normal, Extends, Fails, Unknown}
use Rattle.outcomes.specs.declared.verdicts.Verdict.TheVariants.{Stop}
use Rattle.session_core.specs.Questions.{AsksWhetherTrivial, AsksForNormal, AsksWhetherExtends}

-- moves carry each subject to the empty word
abbrev pub AllAreTrivial : Presented → Question → Type 0
AllAreTrivial p q = AllByRecursion (moves.Trivial p) (subjects q)

-- the question is about a map, and the map extends to a homomorphism
abbrev pub MapExtends : Presented → Question → Type 0
MapExtends p (questions.Trivial w) = ⊥
MapExtends p (questions.Equal u v) = ⊥
MapExtends p (questions.Normal w) = ⊥
MapExtends p (questions.Hom source images) = maps.Extends source images p

-- subject number j is the first that isn't trivial
pub record IsFirstNotTrivial (p : Presented) (q : Question) (j : ℕ) : Type 0 where
  pub number : 1 ≤ j
  pub within : j ≤ length (subjects q)
  pub here : moves.Trivial p (subject_at q j) → ⊥
  pub before : (i : ℕ) → 1 ≤ i → i < j → moves.Trivial p (subject_at q i)

-- v is the Fox vector of w in its reduced form modulo the module of the presentation
pub record IsNormalForm (p : Presented) (w : List Letter) (v : List Term) : Type 0 where
  pub gens : List (List Term)
  pub generators : AreGenerators p gens
  pub vector : IsVector v
  pub reduced : IsReduced gens (fox_at w) (coefficient_at v)

-- the verdict is right and says all: nothing is claimed where it is a stop, and it is never unknown
abbrev pub IsExact : Presented → Question → Verdict → Type 0
IsExact p q Trivial = (AsksWhetherTrivial q ⊎ AsksForNormal q) × AllAreTrivial p q
IsExact p q NotTrivial = AsksWhetherTrivial q × IsFirstNotTrivial p q 1
IsExact p q (Normal v) = AsksForNormal q × IsFirstNotTrivial p q 1 × (v ≢ []) × IsNormalForm p (subject_at q 1) v
IsExact p q Extends = AsksWhetherExtends q × MapExtends p q
IsExact p q (Fails j) = AsksWhetherExtends q × IsFirstNotTrivial p q j × (MapExtends p q → ⊥)
IsExact p q (Unknown j) = ⊥
IsExact p q (Stop j stop) = Unit {0}
