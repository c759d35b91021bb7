-- Reading a word from left to right, with the brackets that are open at a place. Each word that is made has at most
-- `limit` letters.
use Rattle.std.specs.Str.{bytes_eq}
use Rattle.std.specs.Prelude.{position, ℕ, zero, suc, Bool, true, false, List, [], ◌∷◌, ◌++◌, length, drop, Option}
use Rattle.std.specs.Prelude.{Some, None, Result, Ok, Err, if◌then◌else◌}
use Rattle.free_words.specs.declared.letter.Letter.{Letter}
use Rattle.free_words.specs.Words.{commutator}
use Rattle.word_text.specs.declared.fault.Fault.{Fault}
use Rattle.word_text.specs.declared.fault.TextKind.TheVariants.{UnknownName}
use Rattle.word_text.specs.declared.scan.Mark.{Mark}
use Rattle.word_text.specs.declared.scan.Mark.TheVariants as marks
use Rattle.word_text.specs.declared.machine.Spot.{Spot}
use Rattle.word_text.specs.declared.machine.Spot.TheVariants.{Start, After, Starred}
use Rattle.word_text.specs.Scan.{◌>>=◌, first_is, after_blanks, name_at, after_name, mark_of, due}
use Rattle.word_text.specs.Powers.{written, powers_within, within_limit}

-- how an open bracket began; behind its comma a square bracket has its first word
pub data Opening : Type 0 where
  Round : Opening
  Square : Opening
  Second : List Letter → Opening

-- an open bracket: the product before it, how many bytes are left from its first byte on, and how it began
pub record Frame : Type 0 where
  pub outer : List Letter
  pub start : ℕ
  pub opening : Opening

-- the brackets that are open, innermost first; the product so far inside them; and what stands before this place
pub record Reading : Type 0 where
  pub frames : List Frame
  pub product : List Letter
  pub spot : Spot

-- what one token, or one factor's end, leads to
pub record Turned : Type 0 where
  pub state : Reading
  pub ended : Bool
  pub rest : List ℕ

-- the number of the generator of a name
abbrev pub Find : Type 0
Find = List ℕ → Option ℕ

-- the number that the names give it
abbrev pub finding : List (List ℕ) → Find
finding names name = position (λ n. bytes_eq n name) names

abbrev pub goes_on : List Frame → List Letter → Spot → List ℕ → Result Turned Fault
goes_on frames product spot bs = Ok (record {
  state = record { frames = frames; product = product; spot = spot };
  ended = false;
  rest = bs;
})

-- an atom has been read: its powers, and the product with the factor
unfoldable pub factor_ends : ℕ → List Frame → List Letter → ℕ → List Letter → List ℕ → Result Turned Fault
factor_ends limit frames outer start atom bs =
    powers_within limit start atom bs >>= λ x. (within_limit limit start (outer ++ x.0) >>=
    λ p. goes_on frames p After x.1)

-- a bracket opens here
abbrev pub opens : Opening → Reading → List ℕ → Result Turned Fault
opens opening s bs = goes_on (record {
  outer = s.product;
  start = length bs;
  opening = opening;
} ∷ s.frames) [] Start (drop 1 bs)

-- the product inside a bracket is read, and its next byte has to close the bracket
abbrev pub shuts : ℕ → Opening → List Frame → List Letter → ℕ → List Letter → List ℕ → Result Turned Fault
shuts limit Round frames outer start w bs = if first_is 41 bs then factor_ends limit frames outer start w (drop 1 bs)
    else Err (due bs)
shuts limit Square frames outer start w bs =
    if first_is 44 bs then goes_on (record {
      outer = outer;
      start = start;
      opening = Second w;
    } ∷ frames) [] Start (drop 1 bs) else Err (due bs)
shuts limit (Second u) frames outer start w bs =
    if first_is 93 bs then (within_limit limit start (commutator u w) >>=
    λ c. factor_ends limit frames outer start c (drop 1 bs)) else Err (due bs)

-- no factor stands here: the word ends, or the innermost bracket has to go on
abbrev pub closes : ℕ → List Frame → Reading → List ℕ → Result Turned Fault
closes limit [] s bs = Ok (record { state = s; ended = true; rest = bs })
closes limit (f ∷ fs) s bs = shuts limit f.opening fs f.outer f.start s.product bs

abbrev pub stands_no_factor : ℕ → Spot → Reading → List ℕ → Result Turned Fault
stands_no_factor limit Start s bs = closes limit s.frames s bs
stands_no_factor limit After s bs = closes limit s.frames s bs
stands_no_factor limit Starred s bs = Err (due bs)

-- `*` stands between two factors
abbrev pub starred : ℕ → Spot → Reading → List ℕ → Result Turned Fault
starred limit Start s bs = closes limit s.frames s bs
starred limit After s bs = goes_on s.frames s.product Starred (drop 1 bs)
starred limit Starred s bs = Err (due bs)

abbrev pub named : ℕ → Option ℕ → Reading → List ℕ → Result Turned Fault
named limit None s bs = Err (record { kind = UnknownName; left = length bs })
named limit (Some g) s bs = factor_ends limit s.frames s.product (length bs) (record {
  g = g;
  inv = false;
} ∷ []) (after_name bs)

abbrev pub turn_on : ℕ → Find → Mark → Reading → List ℕ → Result Turned Fault
turn_on limit find marks.Letter s bs = named limit (find (name_at bs)) s bs
turn_on limit find marks.One s bs = factor_ends limit s.frames s.product (length bs) [] (drop 1 bs)
turn_on limit find marks.Round s bs = opens Round s bs
turn_on limit find marks.Square s bs = opens Square s bs
turn_on limit find marks.Star s bs = starred limit s.spot s bs
turn_on limit find marks.Bad s bs = stands_no_factor limit s.spot s bs
turn_on limit find marks.Other s bs = stands_no_factor limit s.spot s bs

-- one token, or a whole factor's end, after blanks
unfoldable pub turn : ℕ → Find → Reading → List ℕ → Result Turned Fault
turn limit find s bs = turn_on limit find (mark_of (after_blanks bs)) s (after_blanks bs)

-- the word from this state on, in at most so many turns
unfoldable pub word_from : ℕ → ℕ → Find → Reading → List ℕ → Result (List Letter × List ℕ) Fault
word_from limit zero find s bs = Err (due bs)
word_from limit (suc n) find s bs =
    turn limit find s bs >>= λ t. if t.ended then Ok (t.state.product, t.rest) else word_from limit n find
    t.state t.rest

abbrev pub fresh : Reading
fresh = record { frames = []; product = []; spot = Start }

-- the word at the head of the bytes, and what follows it and its blanks. Each turn takes a byte at least.
unfoldable pub word_within : ℕ → Find → List ℕ → Result (List Letter × List ℕ) Fault
word_within limit find bs = word_from limit (suc (length bs)) find fresh bs

-- the same with the limit of a written word
abbrev pub word_at : Find → List ℕ → Result (List Letter × List ℕ) Fault
word_at = word_within written
