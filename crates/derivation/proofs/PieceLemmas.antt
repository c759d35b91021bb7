-- Lengths and letters of pieces.
use Rattle.std.proofs.Common.{◌≡◌, ℕ, zero, suc, ◌*◌, List, [], ◌∷◌, ◌++◌, length, refl, sym, arith, append_assoc, append-nil}
use Rattle.std.proofs.Math.Nat.{mul_comm}
use Rattle.free_words.specs.declared.letter.Letter.{Letter}
use Rattle.free_words.specs.Words.{inverse, commutator, copies}
use Rattle.free_words.proofs.WordLemmas.{length_copies}
use Rattle.derivation.proofs.Inverses.{inverse-commutator}

-- a length so many times
pub length_times : (times size : ℕ) (w : List Letter) → size ≡ length w → size * times ≡ length (copies times w)
length_times times size w e = rw (length_copies times w, e) (mul_comm (length w) times)

-- however often it is taken, the empty word is empty
copies_nothing : (times : ℕ) (w : List Letter) → length w ≡ 0 → copies times w ≡ []
copies_nothing zero w e = refl
copies_nothing (suc n) [] e = rw (copies_nothing n [] refl) refl
copies_nothing (suc n) (x ∷ w) e = absurd (omega (arith, e))

-- two words and then their inverses
joined : (w s t v x s' t' : List Letter) → v ≡ s' → x ≡ t' → (((w ++ s) ++ t) ++ v) ++ x ≡ w ++ (s ++ t ++ s' ++ t')
joined w s t v x s' t' e f = rw (e, f) (simp append_assoc)

-- the four commutators that a double commutator is made of
pub double_commutator : (u a b c d : List Letter)
    → (((u ++ commutator a b) ++ commutator c d) ++ commutator b a) ++ commutator d c ≡ u ++ commutator (commutator a b) (commutator c d)
double_commutator u a b c d =
    joined u (commutator a b) (commutator c d) (commutator b a) (commutator d c) (inverse (commutator a b)) (inverse (commutator c d))
    (sym (inverse-commutator a b)) (sym (inverse-commutator c d))

-- nothing is put at the end
pub nothing_put : (times : ℕ) (u w : List Letter) → length w ≡ 0 → u ≡ u ++ copies times w
nothing_put times u w e = rw (copies_nothing times w e) (sym (append-nil u))
