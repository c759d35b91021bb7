-- The grammar of words between bytes and letters, apart from any reader. A part stands at bytes, has a value, and
-- leaves the bytes after it. Every part begins behind blanks. Each word in it has at most `limit` letters.
use Rattle.std.specs.Prelude.{◌≡◌, ℕ, ◌<◌, ◌≤◌, Bool, true, false, List, [], ◌∷◌, ◌++◌, length, drop, Some}
use Rattle.free_words.specs.declared.letter.Letter.{Letter}
use Rattle.free_words.specs.Words.{commutator}
use Rattle.word_text.specs.declared.scan.Mark.TheVariants as marks
use Rattle.word_text.specs.declared.machine.Spot.{Spot}
use Rattle.word_text.specs.declared.machine.Spot.TheVariants.{Start, After}
use Rattle.word_text.specs.Scan.{first_is, after_blanks, name_at, after_name, digits_at, after_digits, number, mark_of}
use Rattle.word_text.specs.Powers.{written, power_of}
use Rattle.word_text.specs.Machine.{Find}

-- digits of a number that an exponent may have
abbrev pub IsSize : List ℕ → ℕ → List ℕ → Type 0
IsSize bs n rest = (0 < length (digits_at bs)) × (n ≡ number 0 (digits_at bs)) × (n ≤ written)
    × (rest ≡ after_digits bs)

-- digits, or `-` and digits
abbrev pub IsExponent : List ℕ → Bool → ℕ → List ℕ → Type 0
IsExponent bs true n rest = (first_is 45 bs ≡ true) × IsSize (after_blanks (drop 1 bs)) n rest
IsExponent bs false n rest = (first_is 45 bs ≡ false) × IsSize bs n rest

-- some powers: each makes a word of at most `limit` letters
pub data Raised (limit : ℕ) : List Letter → List ℕ → List Letter → List ℕ → Type 0 where
  none : (w : List Letter) (bs : List ℕ) → Raised limit w bs w bs
  more : (w v : List Letter) (bs mid rest : List ℕ) (negative : Bool) (n : ℕ) → first_is 94 bs ≡ true
      → IsExponent (after_blanks (drop 1 bs)) negative n mid → length (power_of negative n w) ≤ limit
      → Raised limit (power_of negative n w) (after_blanks mid) v rest → Raised limit w bs v rest

-- powers, as many as follow
abbrev pub PowersWithin : ℕ → List Letter → List ℕ → List Letter → List ℕ → Type 0
PowersWithin limit w bs v rest = Raised limit w bs v rest × (first_is 94 rest ≡ false)

-- a product of no factor or of some, a factor, an atom
pub data Part : Type 0 where
  Product : Spot → Part
  Factor : Part
  Atom : Part

pub data SpelledWithin (limit : ℕ) (find : Find) : Part → List ℕ → List Letter → List ℕ → Type 0 where
  nothing : (bs : List ℕ) → SpelledWithin limit find (Product Start) bs [] bs
  follows : (s : Spot) (bs mid rest : List ℕ) (u v : List Letter) → SpelledWithin limit find (Product s) bs u mid
      → SpelledWithin limit find Factor mid v rest → length (u ++ v) ≤ limit
      → SpelledWithin limit find (Product After) bs (u ++ v) rest
  times : (bs mid rest : List ℕ) (u v : List Letter) → SpelledWithin limit find (Product After) bs u mid
      → mark_of mid ≡ marks.Star
      → SpelledWithin limit find Factor (after_blanks (drop 1 mid)) v rest → length (u ++ v) ≤ limit
      → SpelledWithin limit find (Product After) bs (u ++ v) rest
  powers : (bs mid rest : List ℕ) (w v : List Letter) → SpelledWithin limit find Atom bs w mid
      → PowersWithin limit w (after_blanks mid) v rest → SpelledWithin limit find Factor bs v rest
  name : (bs : List ℕ) (g : ℕ) → mark_of bs ≡ marks.Letter → find (name_at bs) ≡ Some g
      → SpelledWithin limit find Atom bs (record { g = g; inv = false } ∷ []) (after_name bs)
  one : (bs : List ℕ) → mark_of bs ≡ marks.One → SpelledWithin limit find Atom bs [] (drop 1 bs)
  round : (s : Spot) (bs mid : List ℕ) (w : List Letter) → mark_of bs ≡ marks.Round
      → SpelledWithin limit find (Product s) (after_blanks (drop 1 bs)) w mid → first_is 41 mid ≡ true
      → SpelledWithin limit find Atom bs w (drop 1 mid)
  square : (s t : Spot) (bs mid last : List ℕ) (u v : List Letter) → mark_of bs ≡ marks.Square
      → SpelledWithin limit find (Product s) (after_blanks (drop 1 bs)) u mid → first_is 44 mid ≡ true
      → SpelledWithin limit find (Product t) (after_blanks (drop 1 mid)) v last → first_is 93 last ≡ true
      → length (commutator u v) ≤ limit → SpelledWithin limit find Atom bs (commutator u v) (drop 1 last)

-- the word that is the whole text
abbrev pub IsWordWithin : ℕ → Find → List ℕ → List Letter → Type 0
IsWordWithin limit find text w = (s : Spot) × SpelledWithin limit find (Product s) (after_blanks text) w []

-- the same with the limit of a written word
abbrev pub Powers : List Letter → List ℕ → List Letter → List ℕ → Type 0
Powers = PowersWithin written

abbrev pub Spelled : Find → Part → List ℕ → List Letter → List ℕ → Type 0
Spelled = SpelledWithin written

abbrev pub IsWord : Find → List ℕ → List Letter → Type 0
IsWord = IsWordWithin written
