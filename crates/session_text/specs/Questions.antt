-- What holds of a question.
use Rattle.std.specs.Prelude.{◌≡◌, ℕ, ◌≤◌, ◌+◌, List, [], ◌∷◌, ◌++◌, length, map, position, nat_lt, option_map, Option}
use Rattle.std.specs.Prelude.{None}
use Rattle.std.specs.List.{AllByRecursion}
use Rattle.free_words.specs.declared.letter.Letter.{Letter}
use Rattle.free_words.specs.declared.TheConstants.{COMPOSED}
use Rattle.free_words.specs.Words.{IsOver, inverse, word_image}
use Rattle.presentation.specs.Presented.{Presented, IsPresented, IsWritten}
use Rattle.session_text.specs.declared.question.Question.{Question}
use Rattle.session_text.specs.declared.question.Question.TheVariants.{Trivial, Equal, Normal, Hom}

-- a homomorphism has an image for each generator of its source, and the source has no modulus
abbrev pub IsFormed : Question → Type 0
IsFormed (Trivial w) = Unit {0}
IsFormed (Equal u v) = Unit {0}
IsFormed (Normal w) = Unit {0}
IsFormed (Hom source images) = (length images ≡ length source.names) × (source.modulus ≡ 0)

-- each word that stands over the session's presentation has a property
abbrev pub OnWords : (List Letter → Type 0) → Question → Type 0
OnWords Has (Trivial w) = Has w
OnWords Has (Equal u v) = Has u × Has v
OnWords Has (Normal w) = Has w
OnWords Has (Hom source images) = AllByRecursion Has images

-- a question over a presentation
abbrev pub IsQuestion : Presented → Question → Type 0
IsQuestion p q = IsFormed q × OnWords (IsOver (length p.names)) q

-- the same, with words that may be written
abbrev pub IsWrittenQuestion : Presented → Question → Type 0
IsWrittenQuestion p q = IsFormed q × OnWords (IsWritten (length p.names)) q

-- the source of a homomorphism is within the limits on presentations
abbrev pub HasSource : Question → Type 0
HasSource (Trivial w) = Unit {0}
HasSource (Equal u v) = Unit {0}
HasSource (Normal w) = Unit {0}
HasSource (Hom source images) = IsPresented source

-- a question within the limits that hold of it alone
abbrev pub IsWritable : Presented → Question → Type 0
IsWritable p q = IsWrittenQuestion p q × HasSource q

-- the words that are trivial exactly where the answer is yes: the word itself, u v^-1 of an equation u = v, and the
-- image of each relator of a source in order
abbrev pub subjects : Question → List (List Letter)
subjects (Trivial w) = w ∷ []
subjects (Equal u v) = (u ++ inverse v) ∷ []
subjects (Normal w) = w ∷ []
subjects (Hom source images) = map (word_image images) source.relators

-- the letters of some words
abbrev pub letters_of : List (List Letter) → ℕ
letters_of [] = 0
letters_of (w ∷ ws) = length w + letters_of ws

-- the letters of all words of a question, relators of a source and images with them
abbrev pub question_letters : Question → ℕ
question_letters (Trivial w) = length w
question_letters (Equal u v) = length u + length v
question_letters (Normal w) = length w
question_letters (Hom source images) = letters_of source.relators + letters_of images

-- the letters of all words of a session
abbrev pub session_letters : List Question → ℕ
session_letters [] = 0
session_letters (q ∷ qs) = question_letters q + session_letters qs

-- the images of a source's relators are within the limit on composed words
abbrev pub HasImages : Question → Type 0
HasImages (Trivial w) = Unit {0}
HasImages (Equal u v) = Unit {0}
HasImages (Normal w) = Unit {0}
HasImages (Hom source images) = AllByRecursion (λ (r : List Letter). length (word_image images r)
    ≤ COMPOSED) source.relators

-- where the first relator stands whose image is past the limit on composed words
abbrev pub first_long : Question → Option ℕ
first_long (Trivial w) = None
first_long (Equal u v) = None
first_long (Normal w) = None
first_long (Hom source images) = position (λ r. nat_lt COMPOSED (length (word_image images r))) source.relators

-- the number of that relator, counted from 1
abbrev pub first_long_image : Question → Option ℕ
first_long_image q = option_map (λ j. j + 1) (first_long q)
