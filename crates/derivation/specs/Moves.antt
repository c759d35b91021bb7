-- Moves on words over a presentation, and the words that moves carry to the empty word. Two words are equal in the
-- largest quotient of the presented group whose derived subgroup is abelian (and, where there is a modulus, of exponent
-- dividing it) exactly where moves carry the one to the other.
use Rattle.std.specs.Prelude.{◌≡◌, ◌<◌, List, [], ◌∷◌, ◌++◌, length, Contains, ◌⊎◌}
use Rattle.free_words.specs.declared.letter.Letter.{Letter}
use Rattle.free_words.specs.Words.{IsOver, flipped, inverse, commutator, copies}
use Rattle.presentation.specs.Presented.{Presented}

-- a word over the generators of the presentation
abbrev pub IsWordOver : Presented → List Letter → Type 0
IsWordOver p w = IsOver (length p.names) w

-- what a move may put in or take out
pub data IsPiece (p : Presented) : List Letter → Type 0 where
  -- a letter and its inverse
  pair : (x : Letter) → x.g < length p.names → IsPiece p (x ∷ flipped x ∷ [])
  relator : (r : List Letter) → Contains p.relators r → IsPiece p r
  inverse_relator : (r : List Letter) → Contains p.relators r → IsPiece p (inverse r)
  -- [[a, b], [c, d]]
  double : (a b c d : List Letter) → IsWordOver p a → IsWordOver p b → IsWordOver p c → IsWordOver p d
      → IsPiece p (commutator (commutator a b) (commutator c d))
  -- [a, b]^m, where the presentation has the modulus m
  power : (a b : List Letter) → 0 < p.modulus → IsWordOver p a → IsWordOver p b
      → IsPiece p (copies p.modulus (commutator a b))

-- `longer` is `shorter` with a piece put in somewhere
pub record PutsIn (p : Presented) (shorter longer : List Letter) : Type 0 where
  pub front : List Letter
  pub piece : List Letter
  pub back : List Letter
  pub is_piece : IsPiece p piece
  pub without : shorter ≡ front ++ back
  pub with : longer ≡ front ++ (piece ++ back)

-- one move, from a word to a word: a piece is put in or taken out
abbrev pub Moves : Presented → List Letter → List Letter → Type 0
Moves p old new = PutsIn p old new ⊎ PutsIn p new old

-- moves lead from the first word, by these words one after another, to the last
abbrev pub Leads : Presented → List Letter → List (List Letter) → List Letter → Type 0
Leads p old [] new = old ≡ new
Leads p old (mid ∷ mids) new = Moves p old mid × Leads p mid mids new

-- a finite list of moves leads from the one word to the other
abbrev pub Reaches : Presented → List Letter → List Letter → Type 0
Reaches p old new = (mids : List (List Letter)) × Leads p old mids new

-- a finite list of moves leads from the word to the empty word
abbrev pub Trivial : Presented → List Letter → Type 0
Trivial p w = Reaches p w []

-- u v^-1 is trivial
abbrev pub Equal : Presented → List Letter → List Letter → Type 0
Equal p u v = Trivial p (u ++ inverse v)
