-- The grammar of derivations between bytes and moves, apart from any reader. A part stands at bytes, has a value, and
-- leaves the bytes after it. Every part may have blanks before it.
use Rattle.std.specs.Prelude.{◌≡◌, ℕ, ◌<◌, ◌≤◌, ◌==◌, Bool, true, false, codes, List, [], ◌∷◌, ◌++◌, length, Some}
use Rattle.std.specs.Prelude.{if◌then◌else◌}
use Rattle.std.specs.List.{AllByRecursion}
use Rattle.free_words.specs.declared.letter.Letter.{Letter}
use Rattle.word_text.specs.declared.scan.Mark.TheVariants as marks
use Rattle.word_text.specs.declared.machine.Spot.{Spot}
use Rattle.word_text.specs.Scan.{after_blanks, name_at, after_name, digits_at, after_digits, mark_of, number}
use Rattle.word_text.specs.Machine.{Find, finding}
use Rattle.word_text.specs.Grammar.{Product, Spelled}
use Rattle.presentation.specs.Presented.{Presented}
use Rattle.presentation.specs.Writing.{joined}
use Rattle.derivation.specs.declared.moves.Insert.{Insert}
use Rattle.derivation.specs.declared.moves.Insert.TheVariants.{Pair, Rel, Dbl, Pow}
use Rattle.derivation.specs.declared.moves.Move.{Move}

-- a keyword, which is the whole name that stands there
abbrev pub KeywordAt : List ℕ → List ℕ → List ℕ → Type 0
KeywordAt bs word rest = (name_at (after_blanks bs) ≡ word) × (rest ≡ after_name (after_blanks bs))

-- a number of one to six digits
abbrev pub NumberAt : List ℕ → ℕ → List ℕ → Type 0
NumberAt bs n rest =
    let here : List ℕ = after_blanks bs in
    (0 < length (digits_at here)) × (length (digits_at here) ≤ 6) × (n ≡ number 0 (digits_at here))
    × (rest ≡ after_digits here)

-- a word, whose letters are the generators that its names give
abbrev pub WordAt : Find → List ℕ → List Letter → List ℕ → Type 0
WordAt find bs w rest = (s : Spot) × Spelled find (Product s) (after_blanks bs) w rest

-- one word or more with commas between them
abbrev pub WordsAt : Find → List ℕ → List (List Letter) → List ℕ → Type 0
WordsAt find bs [] rest = ⊥
WordsAt find bs (w ∷ []) rest = WordAt find bs w rest
WordsAt find bs (w ∷ v ∷ vs) rest =
    (mid : List ℕ) × (next : List ℕ) × WordAt find bs w mid × (after_blanks mid ≡ codes "," ++ next)
    × WordsAt find next (v ∷ vs) rest

-- `^-1` as one token, where the letter is an inverse
abbrev pub SignAt : List ℕ → Bool → List ℕ → Type 0
SignAt bs true rest = after_blanks bs ≡ codes "^-1" ++ rest
SignAt bs false rest = after_blanks bs ≡ rest

-- a letter: the name of a generator, and its sign
abbrev pub LetterAt : Find → List ℕ → Letter → List ℕ → Type 0
LetterAt find bs x rest =
    let here : List ℕ = after_blanks bs in
    (mark_of here ≡ marks.Letter) × (find (name_at here) ≡ Some x.g) × SignAt (after_name here) x.inv rest

-- `inv`, where the inverse of a relator is meant
abbrev pub InverseAt : List ℕ → Bool → List ℕ → Type 0
InverseAt bs true rest = KeywordAt bs (codes "inv") rest
InverseAt bs false rest = rest ≡ bs

-- what is put in or taken out: `pair` and a letter, `rel` and a relator's number, `dbl` and four words, `pow` and two
abbrev pub InsertAt : Find → List ℕ → Insert → List ℕ → Type 0
InsertAt find bs (Pair x) rest = (mid : List ℕ) × KeywordAt bs (codes "pair") mid × LetterAt find mid x rest
InsertAt find bs (Rel j inverted) rest =
    (mid : List ℕ) × (last : List ℕ) × KeywordAt bs (codes "rel") mid × NumberAt mid j last
    × InverseAt last inverted rest
InsertAt find bs (Dbl a b c d) rest = (mid : List ℕ) × KeywordAt bs (codes "dbl") mid
    × WordsAt find mid (a ∷ b ∷ c ∷ d ∷ []) rest
InsertAt find bs (Pow a b) rest = (mid : List ℕ) × KeywordAt bs (codes "pow") mid × WordsAt find mid (a ∷ b ∷ []) rest

-- the line is a move: `ins` or `del`, the place, what is put in or taken out, and blanks alone behind it
pub record IsMove (find : Find) (line : List ℕ) (m : Move) : Type 0 where
  pub place : List ℕ
  pub direction : KeywordAt line (if m.del then codes "del" else codes "ins") place
  pub what : List ℕ
  pub place_stands : NumberAt place m.at what
  pub end : List ℕ
  pub what_stands : InsertAt find what m.what end
  pub ends : after_blanks end ≡ []

-- the lines have these moves in order: a line is a move, or blanks alone
pub data HaveMoves (find : Find) : List (List ℕ) → List Move → Type 0 where
  none : HaveMoves find [] []
  blank : (line : List ℕ) (later : List (List ℕ)) (ms : List Move) → after_blanks line ≡ [] → HaveMoves find later ms
      → HaveMoves find (line ∷ later) ms
  move : (line : List ℕ) (m : Move) (later : List (List ℕ)) (ms : List Move) → IsMove find line m
      → HaveMoves find later ms
      → HaveMoves find (line ∷ later) (m ∷ ms)

-- no byte is LF
abbrev pub IsLine : List ℕ → Type 0
IsLine bs = AllByRecursion (λ (b : ℕ). (b == 10) ≡ false) bs

-- The text is a derivation with these moves: lines with LF between each two. So a text that ends with LF has an empty
-- last line.
abbrev pub IsDerivation : Presented → List ℕ → List Move → Type 0
IsDerivation p text ms = (lines : List (List ℕ)) × (text ≡ joined (10 ∷ []) lines) × AllByRecursion IsLine lines
    × HaveMoves (finding p.names) lines ms
