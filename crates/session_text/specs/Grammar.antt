-- The grammar of sessions between bytes and questions, apart from any reader. A part stands at bytes, has a value, and
-- leaves the bytes after it. Every part may have blanks before it.
use Rattle.std.specs.Prelude.{◌≡◌, ℕ, ◌≤◌, codes, List, [], ◌∷◌, ◌++◌, length}
use Rattle.std.specs.List.{AllByRecursion}
use Rattle.word_text.specs.Scan.{after_blanks}
use Rattle.word_text.specs.Machine.{Find, finding}
use Rattle.presentation.specs.Presented.{Presented}
use Rattle.presentation.specs.Grammar.{PresentationAt}
use Rattle.presentation.specs.Writing.{joined}
use Rattle.derivation.specs.Grammar.{KeywordAt, WordAt, WordsAt, IsLine}
use Rattle.session_text.specs.declared.TheConstants.{QUESTIONS, LETTERS}
use Rattle.session_text.specs.declared.question.Question.{Question}
use Rattle.session_text.specs.declared.question.Question.TheVariants.{Trivial, Equal, Normal, Hom}
use Rattle.session_text.specs.Questions.{HasImages, session_letters}

-- a mark
abbrev pub MarkAt : List ℕ → List ℕ → List ℕ → Type 0
MarkAt bs mark rest = after_blanks bs ≡ mark ++ rest

-- a keyword and what is asked about
abbrev pub QuestionAt : Find → List ℕ → Question → List ℕ → Type 0
QuestionAt find bs (Trivial w) rest = (mid : List ℕ) × KeywordAt bs (codes "trivial") mid × WordAt find mid w rest
QuestionAt find bs (Equal u v) rest =
    (mid : List ℕ) × (sign : List ℕ) × (next : List ℕ)
    × KeywordAt bs (codes "equal") mid × WordAt find mid u sign × MarkAt sign (codes "=") next × WordAt find next v rest
QuestionAt find bs (Normal w) rest = (mid : List ℕ) × KeywordAt bs (codes "normal") mid × WordAt find mid w rest
QuestionAt find bs (Hom source images) rest =
    (mid : List ℕ) × (arrow : List ℕ) × (next : List ℕ)
    × KeywordAt bs (codes "hom") mid × PresentationAt mid source.names source.relators arrow × (source.modulus ≡ 0)
    × MarkAt arrow (codes "->") next × WordsAt find next images rest × (length images ≡ length source.names)

-- the line is a question, with blanks alone behind it, and the images of a source's relators are within their limit
abbrev pub IsAsked : Find → List ℕ → Question → Type 0
IsAsked find line q = (end : List ℕ) × QuestionAt find line q end × (after_blanks end ≡ []) × HasImages q

-- the lines have these questions in order: a line is a question, or blanks alone
pub data HaveQuestions (find : Find) : List (List ℕ) → List Question → Type 0 where
  none : HaveQuestions find [] []
  blank : (line : List ℕ) (later : List (List ℕ)) (qs : List Question) → after_blanks line ≡ []
      → HaveQuestions find later qs → HaveQuestions find (line ∷ later) qs
  question : (line : List ℕ) (q : Question) (later : List (List ℕ)) (qs : List Question) → IsAsked find line q
      → HaveQuestions find later qs
      → HaveQuestions find (line ∷ later) (q ∷ qs)

-- The text is a session with these questions, within the limits: lines with LF between each two. So a text that ends
-- with LF has an empty last line.
abbrev pub IsSession : Presented → List ℕ → List Question → Type 0
IsSession p text qs =
    (lines : List (List ℕ)) × (text ≡ joined (10 ∷ []) lines) × AllByRecursion IsLine lines
    × HaveQuestions (finding p.names) lines qs
    × (length qs ≤ QUESTIONS) × (session_letters qs ≤ LETTERS)
