-- Straight-line programs: each line makes a word of those of earlier lines.
use Rattle.std.specs.Prelude.{◌≡◌, ℕ, zero, suc, ◌^◌, ◌<◌, ◌≤◌, List, [], ◌∷◌, ◌++◌, length, slice_index_or, Result, Ok}
use Rattle.std.specs.Prelude.{Err}
use Rattle.std.specs.declared.alloc.AllocError.{AllocError}
use Rattle.free_words.specs.declared.letter.Letter.{Letter}
use Rattle.free_words.specs.Words.{commutator}
use Rattle.word_text.specs.declared.program.Line.{Line}
use Rattle.word_text.specs.declared.program.Line.TheVariants as lines
use Rattle.word_text.specs.declared.program.Entry.{Entry}
use Rattle.word_text.specs.Powers.{power_of}

-- words are numbered from 1 on, and 0 is the empty word
abbrev pub word_of : List (List Letter) → ℕ → List Letter
word_of words zero = []
word_of words (suc i) = slice_index_or words i []

-- what a line makes of the words before it
abbrev pub made : List (List Letter) → Line → List Letter
made words (lines.Letter l) = l ∷ []
made words (lines.Product u v) = word_of words u ++ word_of words v
made words (lines.Power base raise) = power_of raise.negative raise.times (word_of words base)
made words (lines.Commutator u v) = commutator (word_of words u) (word_of words v)

-- the words of a program, behind earlier ones
abbrev pub words_from : List (List Letter) → List Entry → List (List Letter)
words_from words [] = words
words_from words (e ∷ es) = words_from (words ++ made words e.line ∷ []) es

-- a line speaks of the words up to the n-th
abbrev pub Speaks : ℕ → Line → Type 0
Speaks n (lines.Letter l) = Unit {0}
Speaks n (lines.Product u v) = (u ≤ n) × (v ≤ n)
Speaks n (lines.Power base raise) = (base ≤ n) × (raise.times < 2 ^ 32)
Speaks n (lines.Commutator u v) = (u ≤ n) × (v ≤ n)

-- a line speaks of earlier words, and the length of its word is right
abbrev pub IsEntry : List (List Letter) → Entry → Type 0
IsEntry words e = Speaks (length words) e.line × (e.letters ≡ length (made words e.line))

abbrev pub IsProgram : List (List Letter) → List Entry → Type 0
IsProgram words [] = Unit {0}
IsProgram words (e ∷ es) = IsEntry words e × IsProgram (words ++ made words e.line ∷ []) es

-- the earlier words stay
abbrev pub Keeps : List (List Letter) → List (List Letter) → Type 0
Keeps old new = (length old ≤ length new) × ((k : ℕ) → k ≤ length old → word_of new k ≡ word_of old k)

-- the earlier words stay, and the result is the number of this one
abbrev pub Adds : List (List Letter) → List (List Letter) → Result ℕ AllocError → List Letter → Type 0
Adds old new (Ok i) w = Keeps old new × (i ≤ length new) × (word_of new i ≡ w)
Adds old new (Err e) w = Keeps old new
