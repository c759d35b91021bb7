-- How many letters words and questions have together.
use Rattle.std.proofs.Common.{◌≡◌, ℕ, ◌+◌, ◌*◌, ◌≤◌, List, [], ◌∷◌, ◌++◌, length, arith}
use Rattle.std.specs.List.{AllByRecursion}
use Rattle.free_words.specs.declared.letter.Letter.{Letter}
use Rattle.presentation.specs.Presented.{Presented, IsPresented, IsWritten}
use Rattle.session_text.specs.declared.question.Question.{Question}
use Rattle.session_text.specs.Questions.{letters_of, question_letters, session_letters}

-- written words have so many letters at most
pub few_letters : (n : ℕ) (ws : List (List Letter)) → AllByRecursion (IsWritten n) ws → letters_of ws ≤ length ws * 16384
few_letters n [] are = omega arith
few_letters n (w ∷ ws) are = omega (arith, (are.0).1, few_letters n ws are.1)

pub few_in_relators : (p : Presented) → IsPresented p → letters_of p.relators ≤ 1048576
few_in_relators p is = omega (arith, few_letters (length p.names) p.relators is.relators, is.few_relators)

pub few_in_question : (source p : Presented) (images : List (List Letter)) → IsPresented source → AllByRecursion (IsWritten (length p.names)) images
    → length images ≡ length source.names → letters_of images ≤ 393216
few_in_question source p images is are so = omega (arith, few_letters (length p.names) images are, so, is.few_names)

-- one more question
pub letters_behind : (qs : List Question) (q : Question) → session_letters (qs ++ q ∷ []) ≡ session_letters qs + question_letters q
letters_behind [] q = omega arith
letters_behind (x ∷ qs) q = omega (arith, letters_behind qs q)
