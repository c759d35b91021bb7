-- Maps of the generators of one presentation to words over another.
use Rattle.std.specs.Prelude.{◌≡◌, List, length, Contains}
use Rattle.std.specs.List.{AllByRecursion}
use Rattle.free_words.specs.declared.letter.Letter.{Letter}
use Rattle.free_words.specs.Words.{word_image}
use Rattle.presentation.specs.Presented.{Presented}
use Rattle.derivation.specs.Moves.{IsWordOver, Trivial}

-- a word over p for each generator of q, in order
pub record AreImages (q : Presented) (images : List (List Letter)) (p : Presented) : Type 0 where
  pub one_each : length images ≡ length q.names
  pub over : AllByRecursion (IsWordOver p) images

-- the image of each relator of q is trivial over p
abbrev pub KeepsRelators : Presented → List (List Letter) → Presented → Type 0
KeepsRelators q images p = (r : List Letter) → Contains q.relators r → Trivial p (word_image images r)

-- the map extends to a homomorphism: the image of each word that is trivial over q is trivial over p
abbrev pub Extends : Presented → List (List Letter) → Presented → Type 0
Extends q images p = (w : List Letter) → IsWordOver q w → Trivial q w → Trivial p (word_image images w)
