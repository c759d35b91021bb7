-- What holds of written questions.
use Rattle.std.proofs.Common.{ℕ, List, [], ◌∷◌, length}
use Rattle.std.specs.List.{AllByRecursion}
use Rattle.free_words.specs.declared.letter.Letter.{Letter}
use Rattle.free_words.specs.Words.{IsOver}
use Rattle.presentation.specs.Presented.{Presented, IsWritten}
use Rattle.session_text.specs.declared.question.Question.{Question}
use Rattle.session_text.specs.declared.question.Question.TheVariants.{Trivial, Equal, Normal, Hom}
use Rattle.session_text.specs.Questions.{IsQuestion, IsWrittenQuestion}

over_images : (n : ℕ) (ws : List (List Letter)) → AllByRecursion (IsWritten n) ws → AllByRecursion (IsOver n) ws
over_images n [] are = tt
over_images n (w ∷ ws) are = ((are.0).0, over_images n ws are.1)

-- a question with written words is one over the presentation
pub written_is_over : (p : Presented) (q : Question) → IsWrittenQuestion p q → IsQuestion p q
written_is_over p (Trivial w) h = (tt, (h.1).0)
written_is_over p (Equal u v) h = (tt, (((h.1).0).0, ((h.1).1).0))
written_is_over p (Normal w) h = (tt, (h.1).0)
written_is_over p (Hom source images) h = (h.0, over_images (length p.names) images h.1)
