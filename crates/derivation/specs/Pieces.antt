-- A piece as the code holds it, by the words that it is made of, and what comes of a move with it.
use Rattle.std.specs.Prelude.{◌≡◌, ℕ, ◌<◌, ◌≤◌, ◌+◌, List, [], ◌∷◌, ◌++◌, length, drop, Result, Ok, Err}
use Rattle.free_words.specs.declared.letter.Letter.{Letter}
use Rattle.free_words.specs.declared.TheConstants.{WRITTEN, COMPOSED}
use Rattle.free_words.specs.Words.{flipped, inverse, commutator, copies}
use Rattle.derivation.specs.declared.moves.MoveFault.{MoveFault}
use Rattle.derivation.specs.declared.moves.MoveFault.TheVariants.{Refused, NoMemory}
use Rattle.derivation.specs.declared.moves.MoveReason.TheVariants.{NotThere, TooLong}
use Rattle.derivation.specs.declared.piece.Piece.{Piece}
use Rattle.derivation.specs.declared.piece.Piece.TheVariants.{Pair, Relator, InverseRelator, Double, Power}
use Rattle.derivation.specs.Making.{TakesOut}

-- the letters of a piece
abbrev pub letters_of : Piece → List Letter
letters_of (Pair x) = x ∷ flipped x ∷ []
letters_of (Relator r) = r.now
letters_of (InverseRelator r) = inverse r.now
letters_of (Double a b c d) = commutator (commutator a.now b.now) (commutator c.now d.now)
letters_of (Power a b times) = copies times (commutator a.now b.now)

-- its words are few enough letters for its length to be counted in 64 bits
abbrev pub IsCountable : Piece → Type 0
IsCountable (Pair x) = Unit {0}
IsCountable (Relator r) = Unit {0}
IsCountable (InverseRelator r) = Unit {0}
IsCountable (Double a b c d) = Unit {0}
IsCountable (Power a b times) = (length a.now ≤ WRITTEN) × (length b.now ≤ WRITTEN)

-- The answer where a piece is to be put in at a place of the word.
abbrev pub PuttingGives : ℕ → List Letter → List Letter → Result (List Letter) MoveFault → Type 0
PuttingGives at piece old (Ok new) = TakesOut at piece new old × (length old + length piece ≤ COMPOSED)
PuttingGives at piece old (Err (Refused TooLong)) = COMPOSED < length old + length piece
PuttingGives at piece old (Err NoMemory) = Unit {0}
PuttingGives at piece old (Err (Refused reason)) = ⊥

-- The answer where a piece is to be taken out from a place of the word on.
abbrev pub TakingGives : ℕ → List Letter → List Letter → Result (List Letter) MoveFault → Type 0
TakingGives at piece old (Ok new) = TakesOut at piece old new
TakingGives at piece old (Err (Refused NotThere)) = (back : List Letter) → drop at old ≡ piece ++ back → ⊥
TakingGives at piece old (Err NoMemory) = Unit {0}
TakingGives at piece old (Err (Refused reason)) = ⊥
