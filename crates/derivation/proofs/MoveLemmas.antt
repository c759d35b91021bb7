-- Taking a piece out of a word, and putting it in.
use Rattle.std.proofs.Common.{◌≡◌, ℕ, ◌+◌, ◌-◌, ◌<◌, ◌≤◌, List, ◌++◌, length, take, drop, sym, ap, arith, length-append, length-drop}
use Rattle.std.proofs.lemmas.List.{take-append-drop, length-take-le}
use Rattle.free_words.specs.declared.letter.Letter.{Letter}
use Rattle.derivation.specs.Making.{TakesOut}

-- a piece that is longer than what is left doesn't stand there
pub too_long_to_stand : (at : ℕ) (w piece : List Letter) → length w - at < length piece → (back : List Letter) → drop at w ≡ piece ++ back → ⊥
too_long_to_stand at w piece longer back e = omega (arith, length-drop at w, length-append piece back, ap length e)

-- a piece is put in at a place
pub put_at : (at : ℕ) (w piece new : List Letter) → at ≤ length w → new ≡ take at w ++ (piece ++ drop at w) → TakesOut at piece new w
put_at at w piece new within e = (take at w, drop at w, length-take-le at w within, e, sym (take-append-drop at w))

-- a word with a piece put in is as long as both
pub length_put : (at : ℕ) (w piece new : List Letter) → TakesOut at piece new w → length new ≡ length w + length piece
length_put at w piece new puts =
    simp (puts.3, puts.4, length-append) (omega arith)
