-- The subjects of a question by their numbers.
use Rattle.std.specs.Prelude.{ℕ, ◌-◌, List, [], slice_index_or}
use Rattle.free_words.specs.declared.letter.Letter.{Letter}
use Rattle.session_text.specs.declared.question.Question.{Question}
use Rattle.session_text.specs.Questions.{subjects}

-- the subject with this number, counted from 1
abbrev pub subject_at : Question → ℕ → List Letter
subject_at q j = slice_index_or (subjects q) (j - 1) []
