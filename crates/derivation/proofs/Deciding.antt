-- When letters are equal, and when words begin alike.
use Rattle.std.proofs.Common.{rules, ◌≡◌, Bool, List, ◌++◌, length, drop, IsTrue}
use Rattle.std.specs.Bool.{Decides}
use Rattle.std.specs.List.{starts_with}
use Rattle.std.proofs.lemmas.Slice.Eq.{starts_is}
use Rattle.free_words.specs.declared.letter.Letter.{Letter}
use Rattle.free_words.specs.contracts.letter.LetterPartialEq.TheImpl.{eq-value}

-- `==` on letters decides whether they are equal
pub letter_decides : (a b : Letter) → Decides (eq-value.it a b) (a ≡ b)
letter_decides a b = search rules

-- the test whether a word begins with another says so
pub begins : (test : Bool) (w piece : List Letter) → test ≡ starts_with eq-value.it w piece
    → (IsTrue test → (back : List Letter) × (w ≡ piece ++ back)) × (((back : List Letter) × (w ≡ piece ++ back)) → IsTrue test)
begins test w piece e =
    let said = starts_is letter_decides w piece test e in
    ((λ t. (drop (length piece) w, said.0 t)), (λ found. said.1 found.0 found.1))
