-- What `apply` and `check_steps` answer.
use Rattle.std.specs.Prelude.{◌≡◌, ℕ, zero, suc, ◌+◌, ◌==◌, ◌<◌, ◌≤◌, Bool, true, false, List, [], ◌∷◌, ◌++◌, length}
use Rattle.std.specs.Prelude.{Option, Some, None, Result, Ok, Err, slice_get, if◌then◌else◌, drop}
use Rattle.free_words.specs.declared.letter.Letter.{Letter}
use Rattle.free_words.specs.declared.TheConstants.{COMPOSED}
use Rattle.free_words.specs.Words.{flipped, inverse, commutator, copies}
use Rattle.word_text.specs.Place.{capped}
use Rattle.presentation.specs.Presented.{Presented, IsWritten}
use Rattle.derivation.specs.declared.moves.Insert.{Insert}
use Rattle.derivation.specs.declared.moves.Insert.TheVariants.{Pair, Rel, Dbl, Pow}
use Rattle.derivation.specs.declared.moves.Move.{Move}
use Rattle.derivation.specs.declared.moves.MoveReason.{MoveReason}
use Rattle.derivation.specs.declared.moves.MoveReason.TheVariants.{Place, NoRelator, NoModulus, NotThere, TooLong}
use Rattle.derivation.specs.declared.moves.MoveFault.{MoveFault}
use Rattle.derivation.specs.declared.moves.MoveFault.TheVariants.{Refused, NoMemory}
use Rattle.derivation.specs.declared.moves.StepsFault.{StepsFault}
use Rattle.derivation.specs.declared.moves.StepsFault.TheVariants.{BadMove, NotEmpty}
use Rattle.derivation.specs.declared.moves.StepsFault.TheVariants as steps

-- relator number j, counted from 1
abbrev pub relator_at : List (List Letter) → ℕ → Option (List Letter)
relator_at rs zero = None
relator_at rs (suc j) = slice_get rs j

-- the relator or its inverse, where there is one
abbrev pub relator_piece : Bool → Option (List Letter) → Result (List Letter) MoveReason
relator_piece inverted None = Err NoRelator
relator_piece inverted (Some r) = Ok (if inverted then inverse r else r)

-- the word that is to be put in or taken out, or why the presentation has none
abbrev pub piece_of : Presented → Insert → Result (List Letter) MoveReason
piece_of p (Pair x) = Ok (x ∷ flipped x ∷ [])
piece_of p (Rel j inverted) = relator_piece inverted (relator_at p.relators j)
piece_of p (Dbl a b c d) = Ok (commutator (commutator a b) (commutator c d))
piece_of p (Pow a b) = if p.modulus == 0 then Err NoModulus else Ok (copies p.modulus (commutator a b))

-- letter and words are over the presentation, and the words are no longer than a written word may be
abbrev pub IsInsertOver : Presented → Insert → Type 0
IsInsertOver p (Pair x) = x.g < length p.names
IsInsertOver p (Rel j inverted) = Unit {0}
IsInsertOver p (Dbl a b c d) = IsWritten (length p.names) a × IsWritten (length p.names) b
    × IsWritten (length p.names) c × IsWritten (length p.names) d
IsInsertOver p (Pow a b) = IsWritten (length p.names) a × IsWritten (length p.names) b

-- with the piece taken out at a place the one word is the other
abbrev pub TakesOut : ℕ → List Letter → List Letter → List Letter → Type 0
TakesOut at piece longer shorter =
    (front : List Letter) × (back : List Letter) × (length front ≡ at) × (longer ≡ front ++ (piece ++ back))
    × (shorter ≡ front ++ back)

-- the word after a move with this piece
abbrev pub Moved : Bool → ℕ → List Letter → List Letter → List Letter → Type 0
Moved true at piece old new = TakesOut at piece old new
Moved false at piece old new = TakesOut at piece new old × (length old + length piece ≤ COMPOSED)

-- The answer to a move: the word after it, or the first reason against it. A place at the end of the word is a place.
abbrev pub MoveGives : Presented → List Letter → Move → Result (List Letter) MoveFault → Type 0
MoveGives p old m (Ok new) =
    (m.at ≤ length old) × ((piece : List Letter) × (piece_of p m.what ≡ Ok piece) × Moved m.del m.at piece old new)
MoveGives p old m (Err (Refused Place)) = length old < m.at
MoveGives p old m (Err (Refused NoRelator)) = (m.at ≤ length old) × (piece_of p m.what ≡ Err NoRelator)
MoveGives p old m (Err (Refused NoModulus)) = (m.at ≤ length old) × (piece_of p m.what ≡ Err NoModulus)
MoveGives p old m (Err (Refused NotThere)) =
    (m.at ≤ length old) × (m.del ≡ true) × ((piece : List Letter) × (piece_of p m.what ≡ Ok piece)
    × ((back : List Letter) → drop m.at old ≡ piece ++ back → ⊥))
MoveGives p old m (Err (Refused TooLong)) =
    (m.at ≤ length old) × (m.del ≡ false) × ((piece : List Letter) × (piece_of p m.what ≡ Ok piece)
    × (COMPOSED < length old + length piece))
MoveGives p old m (Err NoMemory) = Unit {0}

-- the moves were made, one after another, from the first word to the last
abbrev pub Runs : Presented → List Letter → List Move → List Letter → Type 0
Runs p old [] new = old ≡ new
Runs p old (m ∷ ms) new = (mid : List Letter) × MoveGives p old m (Ok mid) × Runs p mid ms new

-- The answer to a list of moves: they carry the word to the empty word; the first move that can't be made and the
-- reason, after those before it were made; or how many letters are left after all.
abbrev pub StepsGive : Presented → List Letter → List Move → Result (Unit {0}) StepsFault → Type 0
StepsGive p w moves (Ok done) = Runs p w moves []
StepsGive p w moves (Err (BadMove number reason)) =
    (made : List Move) × (m : Move) × (later : List Move) × (mid : List Letter)
    × (moves ≡ made ++ m ∷ later) × Runs p w made mid × MoveGives p mid m (Err (Refused reason))
    × (number ≡ capped (length made + 1))
StepsGive p w moves (Err (NotEmpty left)) =
    (end : List Letter) × Runs p w moves end × (left ≡ length end) × (0 < left)
StepsGive p w moves (Err steps.NoMemory) = Unit {0}

-- the fault of a move that stands behind so many others, as a fault of the list
abbrev pub IsAtMove : ℕ → MoveFault → StepsFault → Type 0
IsAtMove before (Refused reason) fault = fault ≡ BadMove (capped (before + 1)) reason
IsAtMove before NoMemory fault = fault ≡ steps.NoMemory
