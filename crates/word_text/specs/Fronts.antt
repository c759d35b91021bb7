-- Fronts of words: what stands before a place in a text, where each word so far has at most `limit` letters.
use Rattle.std.specs.Prelude.{◌≡◌, ℕ, ◌<◌, Bool, true, List, ◌++◌, length, drop}
use Rattle.free_words.specs.declared.letter.Letter.{Letter}
use Rattle.free_words.specs.Words.{commutator}
use Rattle.word_text.specs.declared.scan.Mark.TheVariants as marks
use Rattle.word_text.specs.declared.machine.Spot.{Spot}
use Rattle.word_text.specs.declared.machine.Spot.TheVariants.{Start, After, Starred}
use Rattle.word_text.specs.Scan.{first_is, after_blanks, mark_of}
use Rattle.word_text.specs.Powers.{power_of}
use Rattle.word_text.specs.Machine.{Find}
use Rattle.word_text.specs.Grammar.{Product, Factor, Atom, SpelledWithin, IsExponent, Raised}

-- A product from `begin` up to a place at which a factor may stand: no factor yet, some, or some and `*`.
abbrev pub SoFar : ℕ → Find → Spot → List ℕ → List Letter → List ℕ → Type 0
SoFar limit find Start begin w place = SpelledWithin limit find (Product Start) begin w place
SoFar limit find After begin w place = SpelledWithin limit find (Product After) begin w place
SoFar limit find Starred begin w place =
    (star : List ℕ) × SpelledWithin limit find (Product After) begin w star × (mark_of star ≡ marks.Star)
    × (place ≡ after_blanks (drop 1 star))

-- A product begins at a place: the text's first, or one inside brackets that are still open there.
pub data Begins (limit : ℕ) (find : Find) (text : List ℕ) : List ℕ → Type 0 where
  outermost : Begins limit find text (after_blanks text)
  in_round : (begin place : List ℕ) (spot : Spot) (u : List Letter) → Begins limit find text begin
      → SoFar limit find spot begin u place
      → mark_of place ≡ marks.Round → Begins limit find text (after_blanks (drop 1 place))
  in_square : (begin place : List ℕ) (spot : Spot) (u : List Letter) → Begins limit find text begin
      → SoFar limit find spot begin u place
      → mark_of place ≡ marks.Square → Begins limit find text (after_blanks (drop 1 place))
  behind_comma : (begin place mid : List ℕ) (spot s : Spot) (u v : List Letter) → Begins limit find text begin
      → SoFar limit find spot begin u place
      → mark_of place ≡ marks.Square → SpelledWithin limit find (Product s) (after_blanks (drop 1 place)) v mid
      → first_is 44 mid ≡ true
      → Begins limit find text (after_blanks (drop 1 mid))

-- A factor may stand at a place, behind the product u of the innermost open bracket.
pub record FactorAt (limit : ℕ) (find : Find) (text : List ℕ) (u : List Letter) (place : List ℕ) : Type 0 where
  pub begin : List ℕ
  pub spot : Spot
  pub begins : Begins limit find text begin
  pub so_far : SoFar limit find spot begin u place

-- A factor that stands at a place behind the product u makes a word of more than `limit` letters: by one of its powers,
-- by a commutator, or at its end, joined to u. It is read so far, up to the last of these places.
pub data Passes (limit : ℕ) (find : Find) (u : List Letter) (place : List ℕ) : List ℕ → Type 0 where
  by_power : (a v : List Letter) (mid caret last : List ℕ) (negative : Bool) (n : ℕ)
      → SpelledWithin limit find Atom place a mid
      → Raised limit a (after_blanks mid) v caret → first_is 94 caret ≡ true
      → IsExponent (after_blanks (drop 1 caret)) negative n last
      → limit < length (power_of negative n v) → Passes limit find u place last
  by_commutator : (s t : Spot) (v w : List Letter) (mid last : List ℕ) → mark_of place ≡ marks.Square
      → SpelledWithin limit find (Product s) (after_blanks (drop 1 place)) v mid → first_is 44 mid ≡ true
      → SpelledWithin limit find (Product t) (after_blanks (drop 1 mid)) w last → first_is 93 last ≡ true
      → limit < length (commutator v w) → Passes limit find u place (drop 1 last)
  by_product : (v : List Letter) (rest : List ℕ) → SpelledWithin limit find Factor place v rest
      → limit < length (u ++ v) → Passes limit find u place rest
