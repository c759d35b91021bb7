-- The one form in which questions are written.
use Rattle.std.specs.Prelude.{ℕ, codes, List, ◌++◌, map}
use Rattle.presentation.specs.Writing.{joined, written_word, written_presentation}
use Rattle.session_text.specs.declared.question.Question.{Question}
use Rattle.session_text.specs.declared.question.Question.TheVariants.{Trivial, Equal, Normal, Hom}

-- the keyword, a space and what is asked about; words are over these names
abbrev pub written_question : List (List ℕ) → Question → List ℕ
written_question names (Trivial w) = codes "trivial " ++ written_word names w
written_question names (Equal u v) = codes "equal " ++ written_word names u ++ codes " = " ++ written_word names v
written_question names (Normal w) = codes "normal " ++ written_word names w
written_question names (Hom source images) =
    codes "hom " ++ written_presentation source ++ codes " -> " ++ joined (codes ", ") (map (written_word names) images)
