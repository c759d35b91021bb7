-- The words of a reading, and the straight-line program that holds them.
use Rattle.std.specs.Prelude.{ℕ, ◌≤◌, List, [], ◌∷◌, map, Option, Some, None}
use Rattle.std.specs.List.{AllByRecursion}
use Rattle.free_words.specs.declared.letter.Letter.{Letter}
use Rattle.word_text.specs.declared.draft.Awaited.{Awaited}
use Rattle.word_text.specs.declared.draft.Awaited.TheVariants as awaited
use Rattle.word_text.specs.declared.draft.Inner.{Inner}
use Rattle.word_text.specs.declared.draft.Inner.TheVariants as inner
use Rattle.word_text.specs.declared.draft.Bracket.{Bracket}
use Rattle.word_text.specs.Program.{word_of}
use Rattle.word_text.specs.Machine.{Opening, Round, Square, Second, Frame}

-- the open brackets with the products before them, the product so far inside them, and the atom that was read last
pub record Drafted : Type 0 where
  pub frames : List Frame
  pub product : List Letter
  pub atom : List Letter

-- what is seen of a bracket whose words have numbers
abbrev pub opening_of : List (List Letter) → Inner → Opening
opening_of words inner.Round = Round
opening_of words inner.Square = Square
opening_of words (inner.Second u) = Second (word_of words u)

abbrev pub frame_of : List (List Letter) → Bracket → Frame
frame_of words b = record { outer = word_of words b.outer; start = b.start; opening = opening_of words b.inner }

abbrev pub drafted : List (List Letter) → List Bracket → ℕ → ℕ → Drafted
drafted words brackets product atom =
    record { frames = map (frame_of words) brackets; product = word_of words product; atom = word_of words atom }

-- each number is one of the first n words
abbrev pub IsInnerHeld : ℕ → Inner → Type 0
IsInnerHeld n inner.Round = Unit {0}
IsInnerHeld n inner.Square = Unit {0}
IsInnerHeld n (inner.Second u) = u ≤ n

abbrev pub IsBracketHeld : ℕ → Bracket → Type 0
IsBracketHeld n b = (b.outer ≤ n) × IsInnerHeld n b.inner

pub record IsHeld (n : ℕ) (brackets : List Bracket) (product_at atom_at : ℕ) : Type 0 where
  pub brackets_held : AllByRecursion (IsBracketHeld n) brackets
  pub product_held : product_at ≤ n
  pub atom_held : atom_at ≤ n

-- what the innermost bracket waits for
abbrev pub awaited_by : Opening → Awaited
awaited_by Round = awaited.Parenthesis
awaited_by Square = awaited.Comma
awaited_by (Second u) = awaited.Bracket

abbrev pub awaited_in : List Frame → Option Awaited
awaited_in [] = None
awaited_in (f ∷ fs) = Some (awaited_by f.opening)

-- the innermost bracket, and those around it
abbrev pub innermost : List Frame → Frame
innermost [] = record { outer = []; start = 0; opening = Round }
innermost (f ∷ fs) = f

abbrev pub around : List Frame → List Frame
around [] = []
around (f ∷ fs) = fs

-- the first word of a square bracket behind its comma
abbrev pub first_word : Opening → List Letter
first_word Round = []
first_word Square = []
first_word (Second u) = u
