-- Words: lists of letters (g, +1 or -1), with product and inverse.
use Rattle.std.specs.Prelude.{◌≡◌, ℕ, zero, suc, ◌<◌, ◌≤◌, not, ◌&&◌, ◌==◌, List, [], ◌∷◌, ◌++◌, map, reverse, length}
use Rattle.std.specs.Prelude.{count_by, slice_index_or, Result, Ok, Err, ℤ, pos, ◌-ℤ◌, unsigned_abs, int_lt}
use Rattle.std.specs.Prelude.{if◌then◌else◌}
use Rattle.std.specs.List.{AllByRecursion, flat_map}
use Rattle.free_words.specs.declared.letter.Letter.{Letter}
use Rattle.free_words.specs.declared.fault.WordFault.{WordFault}
use Rattle.free_words.specs.declared.fault.WordFault.TheVariants.{TooLong, NoMemory}

-- a word over so many generators: each letter is one of them or its inverse
abbrev pub IsOver : ℕ → List Letter → Type 0
IsOver n w = AllByRecursion (λ (l : Letter). l.g < n) w

-- the same generator with the other sign
abbrev pub flipped : Letter → Letter
flipped l = record { g = l.g; inv = not l.inv }

-- the list reversed, each sign turned
abbrev pub inverse : List Letter → List Letter
inverse w = map flipped (reverse w)

-- [u, v] is u v u^-1 v^-1
abbrev pub commutator : List Letter → List Letter → List Letter
commutator u v = u ++ v ++ inverse u ++ inverse v

-- n copies of a word, one after another
abbrev pub copies : ℕ → List Letter → List Letter
copies zero w = []
copies (suc n) w = copies n w ++ w

-- the k-th power; a negative k takes the inverse
abbrev pub power : List Letter → ℤ → List Letter
power w k = copies (unsigned_abs k) (if int_lt k (pos 0) then inverse w else w)

-- What a call that makes a word answers: the word, where it is within the limit; its length, where it is not; or that
-- memory ran out.
abbrev pub MadeWithin : ℕ → List Letter → Result (List Letter) WordFault → Type 0
MadeWithin limit w (Ok made) = (length w ≤ limit) × (made ≡ w)
MadeWithin limit w (Err (TooLong letters)) = (limit < length w) × (letters ≡ length w)
MadeWithin limit w (Err NoMemory) = Unit {0}

-- no letter stands beside its inverse
abbrev pub IsReduced : List Letter → Type 0
IsReduced [] = Unit {0}
IsReduced (x ∷ []) = Unit {0}
IsReduced (x ∷ y ∷ ys) = (flipped x ≡ y → ⊥) × IsReduced (y ∷ ys)

-- the second word is the first with pairs x x^-1 left out, one after another
pub data Cancels : List Letter → List Letter → Type 0 where
  none : (w : List Letter) → Cancels w w
  pair : (u v w : List Letter) (x : Letter) → Cancels (u ++ v) w → Cancels (u ++ x ∷ flipped x ∷ v) w

-- the exponent sum of a generator: the number of its letters (g, +1) less that of its letters (g, -1)
unfoldable pub exponent_sum : ℕ → List Letter → ℤ
exponent_sum g w = pos (count_by (λ l. (l.g == g) && not l.inv) w) -ℤ pos (count_by (λ l. (l.g == g) && l.inv) w)

-- The image of a letter, where the i-th word is the image of the i-th generator: that word, or its inverse.
abbrev pub letter_image : List (List Letter) → Letter → List Letter
letter_image images l = if l.inv then inverse (slice_index_or images l.g []) else slice_index_or images l.g []

-- the image of a word: its letters' images, one after another
abbrev pub word_image : List (List Letter) → List Letter → List Letter
word_image images w = flat_map (letter_image images) w
