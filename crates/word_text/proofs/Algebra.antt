-- Copies and inverses of words.
use Rattle.std.proofs.Common.{◌≡◌, ℕ, zero, suc, ◌+◌, ◌*◌, Bool, true, false, not, List, [], ◌∷◌, ◌++◌, length, refl, sym, ◌∙◌, ap, append_assoc, length-append}
use Rattle.std.proofs.Common.{add-zero, add-suc, arith, if◌then◌else◌}
use Rattle.std.proofs.lemmas.List.{map-append, reverse-append, append-nil, length-map, length-reverse, nil_from_length}
use Rattle.free_words.specs.declared.letter.Letter.{Letter}
use Rattle.free_words.specs.Words.{flipped, inverse, copies, commutator}
use Rattle.free_words.proofs.WordLemmas.{flipped-flipped, length_copies}
use Rattle.word_text.specs.Powers.{power_of}

pub inverse-append : (u v : List Letter) → inverse (u ++ v) ≡ inverse v ++ inverse u
inverse-append u v = rw (reverse-append u v, map-append) refl

pub inverse-inverse : (w : List Letter) → inverse (inverse w) ≡ w
inverse-inverse [] = refl
inverse-inverse (x ∷ w) =
    rw (inverse-append (x ∷ []) w, inverse-append (inverse w) (flipped x ∷ []), inverse-inverse w, flipped-flipped x) refl

-- one more copy may stand first
pub copies_front : (n : ℕ) (w : List Letter) → w ++ copies n w ≡ copies n w ++ w
copies_front zero w = append-nil w
copies_front (suc n) w = rw (← append_assoc, copies_front n w) refl

copies-add : (n k : ℕ) (w : List Letter) → copies (n + k) w ≡ copies n w ++ copies k w
copies-add n zero w = rw (add-zero, append-nil) refl
copies-add n (suc k) w = rw (add-suc, copies-add n k w) (append_assoc (copies n w) (copies k w) w)

copies-copies : (n k : ℕ) (w : List Letter) → copies n (copies k w) ≡ copies (n * k) w
copies-copies zero k w = let e : zero * k ≡ zero = omega arith in rw e refl
copies-copies (suc n) k w =
    let e : suc n * k ≡ n * k + k = omega arith in
    rw (e, copies-copies n k w) (sym (copies-add (n * k) k w))

pub inverse-copies : (n : ℕ) (w : List Letter) → inverse (copies n w) ≡ copies n (inverse w)
inverse-copies zero w = refl
inverse-copies (suc n) w = rw (inverse-append (copies n w) w, inverse-copies n w) (copies_front n (inverse w))

-- a power of a power
pub power_power : (s t : Bool) (n k : ℕ) (w : List Letter) → power_of t n (power_of s k w) ≡ power_of (if t then not s else s) (n * k) w
power_power true true n k w = rw (inverse-copies k (inverse w), inverse-inverse w) (copies-copies n k w)
power_power false true n k w = rw (inverse-copies k w) (copies-copies n k (inverse w))
power_power true false n k w = copies-copies n k (inverse w)
power_power false false n k w = copies-copies n k w

-- lengths
pub length-inverse : (w : List Letter) → length (inverse w) ≡ length w
length-inverse w = simp (length-map, length-reverse)

pub length-power : (negative : Bool) (n : ℕ) (w : List Letter) → length (power_of negative n w) ≡ n * length w
length-power true n w = length_copies n (inverse w) ∙ ap (λ k. n * k) (length-inverse w)
length-power false n w = length_copies n w

pub length-commutator : (u v : List Letter) → length (commutator u v) ≡ (length u + length v) * 2
length-commutator u v = simp (length-append, length-inverse u, length-inverse v) (omega arith)

-- a word of no letters
pub power_nil : (negative : Bool) (n : ℕ) (w : List Letter) → n * length w ≡ 0 → power_of negative n w ≡ []
power_nil negative n w e = nil_from_length (power_of negative n w) (length-power negative n w ∙ e)

pub power_once : (w : List Letter) → power_of false 1 w ≡ w
power_once w = refl
