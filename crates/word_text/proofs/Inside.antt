-- What a state of the reading stands for, and where a reading can stop.
use Rattle.std.proofs.Common.{◌==◌, ◌≡◌, ℕ, ◌<◌, Bool, true, false, List, [], ◌∷◌, ◌++◌, length, drop, None}
use Rattle.free_words.specs.declared.letter.Letter.{Letter}
use Rattle.free_words.specs.Words.{commutator}
use Rattle.word_text.specs.declared.fault.Fault.{Fault}
use Rattle.word_text.specs.declared.fault.TextKind.TheVariants.{UnknownName, WordTooLong}
use Rattle.word_text.specs.declared.scan.Mark.{Mark}
use Rattle.word_text.specs.declared.scan.Mark.TheVariants as marks
use Rattle.word_text.specs.declared.machine.Spot.{Spot}
use Rattle.word_text.specs.declared.machine.Spot.TheVariants.{Start, After, Starred}
use Rattle.word_text.specs.Scan.{first_is, after_blanks, name_at, mark_of, due}
use Rattle.word_text.specs.Powers.{power_of}
use Rattle.word_text.specs.Machine.{Opening, Round, Square, Second, Frame, Find}
use Rattle.word_text.specs.Grammar.{Product, Factor, Atom, SpelledWithin, IsExponent, Raised}
use Rattle.word_text.specs.Fronts.{SoFar}
use Rattle.word_text.proofs.Exponents.{NoExponent}

-- an open bracket at a place: where the product inside it begins
abbrev pub Opened : ℕ → Find → Opening → List ℕ → List ℕ → Type 0
Opened limit find Round place begin = (mark_of place ≡ marks.Round) × (begin ≡ after_blanks (drop 1 place))
Opened limit find Square place begin = (mark_of place ≡ marks.Square) × (begin ≡ after_blanks (drop 1 place))
Opened limit find (Second u) place begin = (s : Spot) × (mid : List ℕ) × (mark_of place ≡ marks.Square)
    × SpelledWithin limit find (Product s) (after_blanks (drop 1 place)) u mid × (first_is 44 mid ≡ true) × (begin ≡ after_blanks (drop 1 mid))

-- the brackets that are open, each at its place, and the product inside them
abbrev pub Inside : ℕ → Find → List ℕ → List Frame → List Letter → Spot → List ℕ → Type 0
Inside limit find origin [] w spot bs = SoFar limit find spot origin w bs
Inside limit find origin (f ∷ fs) w spot bs = (place : List ℕ) × (begin : List ℕ) × (before : Spot)
    × Inside limit find origin fs f.outer before place × Opened limit find f.opening place begin × SoFar limit find spot begin w bs
    × (f.start ≡ length place)

-- no factor begins at a mark
abbrev pub BeginsNoFactor : Mark → Type 0
BeginsNoFactor marks.Letter = ⊥
BeginsNoFactor marks.One = ⊥
BeginsNoFactor marks.Round = ⊥
BeginsNoFactor marks.Square = ⊥
BeginsNoFactor marks.Star = Unit {0}
BeginsNoFactor marks.Bad = Unit {0}
BeginsNoFactor marks.Other = Unit {0}

-- the byte that goes on with the innermost bracket; with none the text has to end
abbrev pub closer : Opening → ℕ
closer Round = 41
closer Square = 44
closer (Second u) = 93

abbrev pub goes_on_with : List Frame → List ℕ → Bool
goes_on_with [] bs = length bs == 0
goes_on_with (f ∷ fs) bs = first_is (closer f.opening) bs

-- at these bytes the product can end
abbrev pub CanEnd : Spot → List ℕ → Type 0
CanEnd Start bs = BeginsNoFactor (mark_of bs)
CanEnd After bs = BeginsNoFactor (mark_of bs) × (mark_of bs ≡ marks.Star → ⊥)
CanEnd Starred bs = ⊥

-- neither a factor nor what may follow the product stands here
abbrev pub Blocked : List Frame → Spot → List ℕ → Type 0
Blocked frames Start bs = CanEnd Start bs × (goes_on_with frames bs ≡ false)
Blocked frames After bs = CanEnd After bs × (goes_on_with frames bs ≡ false)
Blocked frames Starred bs = BeginsNoFactor (mark_of bs)

-- how a reading stops
pub data Stops (limit : ℕ) (find : Find) (origin : List ℕ) : Fault → Type 0 where
  blocked : (frames : List Frame) (w : List Letter) (spot : Spot) (bs : List ℕ) → Inside limit find origin frames w spot bs
      → Blocked frames spot bs → Stops limit find origin (due bs)
  unknown : (frames : List Frame) (w : List Letter) (spot : Spot) (bs : List ℕ) → Inside limit find origin frames w spot bs
      → mark_of bs ≡ marks.Letter → find (name_at bs) ≡ None → Stops limit find origin (record { kind = UnknownName; left = length bs })
  no_exponent : (frames : List Frame) (outer : List Letter) (spot : Spot) (place mid at : List ℕ) (a v : List Letter) (e : Fault)
      → Inside limit find origin frames outer spot place → SpelledWithin limit find Atom place a mid → Raised limit a (after_blanks mid) v at
      → first_is 94 at ≡ true → NoExponent (after_blanks (drop 1 at)) e → Stops limit find origin e
  long_power : (frames : List Frame) (outer : List Letter) (spot : Spot) (place mid at last : List ℕ) (a v : List Letter) (negative : Bool) (n : ℕ)
      → Inside limit find origin frames outer spot place → SpelledWithin limit find Atom place a mid → Raised limit a (after_blanks mid) v at
      → first_is 94 at ≡ true → IsExponent (after_blanks (drop 1 at)) negative n last → limit < length (power_of negative n v)
      → Stops limit find origin (record { kind = WordTooLong; left = length place })
  long_commutator : (frames : List Frame) (outer : List Letter) (spot s t : Spot) (place mid last : List ℕ) (u v : List Letter)
      → Inside limit find origin frames outer spot place → mark_of place ≡ marks.Square
      → SpelledWithin limit find (Product s) (after_blanks (drop 1 place)) u mid → first_is 44 mid ≡ true
      → SpelledWithin limit find (Product t) (after_blanks (drop 1 mid)) v last → first_is 93 last ≡ true → limit < length (commutator u v)
      → Stops limit find origin (record { kind = WordTooLong; left = length place })
  long_product : (frames : List Frame) (outer : List Letter) (spot : Spot) (place rest : List ℕ) (v : List Letter)
      → Inside limit find origin frames outer spot place → SpelledWithin limit find Factor place v rest → limit < length (outer ++ v)
      → Stops limit find origin (record { kind = WordTooLong; left = length place })
