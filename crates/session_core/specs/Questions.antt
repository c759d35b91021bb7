-- The kinds of questions, and the questions that can be asked.
use Rattle.presentation.specs.Presented.{Presented}
use Rattle.session_text.specs.declared.question.Question.{Question}
use Rattle.session_text.specs.declared.question.Question.TheVariants.{Trivial, Equal, Normal, Hom}
use Rattle.session_text.specs.Questions.{IsWrittenQuestion, HasImages}

-- it is asked whether a word is trivial, or whether two words are equal
abbrev pub AsksWhetherTrivial : Question → Type 0
AsksWhetherTrivial (Trivial w) = Unit {0}
AsksWhetherTrivial (Equal u v) = Unit {0}
AsksWhetherTrivial (Normal w) = ⊥
AsksWhetherTrivial (Hom source images) = ⊥

-- it is asked for a normal form
abbrev pub AsksForNormal : Question → Type 0
AsksForNormal (Trivial w) = ⊥
AsksForNormal (Equal u v) = ⊥
AsksForNormal (Normal w) = Unit {0}
AsksForNormal (Hom source images) = ⊥

-- it is asked whether a map extends to a homomorphism
abbrev pub AsksWhetherExtends : Question → Type 0
AsksWhetherExtends (Trivial w) = ⊥
AsksWhetherExtends (Equal u v) = ⊥
AsksWhetherExtends (Normal w) = ⊥
AsksWhetherExtends (Hom source images) = Unit {0}

-- the question's words are over the presentation, and its words and subjects are within their limits
abbrev pub CanBeAsked : Presented → Question → Type 0
CanBeAsked p q = IsWrittenQuestion p q × HasImages q
