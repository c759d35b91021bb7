-- Words: lengths, inverses, powers and commutators, and what keeps a word reduced.
use Rattle.std.proofs.lemmas.List.{length-map, length-reverse, map-append, reverse-append, append-nil}
use Rattle.std.proofs.Common.{◌+◌, ◌≡◌, ℕ, zero, suc, ◌*◌, Bool, true, false, not, List, [], ◌∷◌, ◌++◌, length, refl, sym, ◌∙◌, ap, subst, arith, append_assoc}
use Rattle.std.proofs.Common.{length-append, take, ◌-◌, ℤ, pos, negsuc, neg_ℤ, reverse, int_lt, if◌then◌else◌}
use Rattle.std.proofs.lemmas.Bool.Decides.{nat_tests}
use Rattle.std.proofs.Math.Seq.{take-append_seam}
use Rattle.free_words.specs.declared.letter.Letter.{Letter}
use Rattle.free_words.specs.Words.{flipped, copies, power, IsReduced, Cancels, inverse, commutator}

-- n copies are n times as long
pub length_copies : (n : ℕ) (w : List Letter) → length (copies n w) ≡ n * length w
length_copies zero w = omega arith
length_copies (suc n) w = grind (arith, length_copies n w, length-append (copies n w) w)

-- an inverse is as long as the word
length_inverse : (w : List Letter) → length (inverse w) ≡ length w
length_inverse w = simp (length-map, length-reverse)

-- a commutator is twice as long as its two words
pub length_commutator : (u v : List Letter) → length (commutator u v) ≡ (length u + length v) * 2
length_commutator u v = simp (length-append, length_inverse u, length_inverse v) (omega arith)

-- turning a sign twice
pub flipped-flipped : (l : Letter) → flipped (flipped l) ≡ l
flipped-flipped l =
    ap (λ (b : Bool). let r : Letter = record { g = l.g; inv = b } in r)
    (elim l.inv as (λ b. not (not b) ≡ b) [ true ↦ refl | false ↦ refl ])

-- a letter that is not the inverse of the last one may be put at the end
pub IsReduced_push : (xs : List Letter) (l : Letter) → IsReduced xs
    → ((front : List Letter) × (xs ≡ front ++ flipped l ∷ []) → ⊥) → IsReduced (xs ++ l ∷ [])
IsReduced_push [] l r free = tt
IsReduced_push (x ∷ []) l r free = ((λ e. free ([], ap (λ y. y ∷ []) (sym (flipped-flipped x) ∙ ap flipped e))), tt)
IsReduced_push (x ∷ y ∷ ys) l r free = (r.0, IsReduced_push (y ∷ ys) l r.1 (λ h. free (x ∷ h.0, ap (λ t. x ∷ t) h.1)))

-- without its last letter a reduced word is reduced
pub IsReduced_pop : (xs : List Letter) (l : Letter) → IsReduced (xs ++ l ∷ []) → IsReduced xs
IsReduced_pop [] l r = tt
IsReduced_pop (x ∷ []) l r = tt
IsReduced_pop (x ∷ y ∷ ys) l r = (r.0, IsReduced_pop (y ∷ ys) l r.1)

-- a letter and its inverse may be left out
pub cancels_front : (front t w : List Letter) (l : Letter) → Cancels (front ++ t) w → Cancels ((front ++ flipped l ∷ []) ++ l ∷ t) w
cancels_front front t w l h =
    rw append_assoc
    (subst (λ (y : Letter). Cancels (front ++ flipped l ∷ y ∷ t) w) (flipped-flipped l)
    (Cancels.pair front t w (flipped l) h))

-- all but the last letter
pub front_is_take : (out front : List Letter) (y : Letter) → out ≡ front ++ y ∷ [] → take (length out - 1) out ≡ front
front_is_take out front y e =
    rw e (let n : length (front ++ y ∷ []) - 1 ≡ length front = omega (arith, length-append front (y ∷ [])) in
    rw n (take-append_seam front (y ∷ [])))

-- ---- inverses

-- the inverse of a product is the product of the inverses in reverse
pub inverse-append : (u v : List Letter) → inverse (u ++ v) ≡ inverse v ++ inverse u
inverse-append u v = rw (reverse-append u v) (map-append flipped (reverse v) (reverse u))

-- the inverse of a word that begins with a letter
pub inverse-cons : (x : Letter) (w : List Letter) → inverse (x ∷ w) ≡ inverse w ++ flipped x ∷ []
inverse-cons x w = inverse-append (x ∷ []) w

-- inverting twice
pub inverse-inverse : (w : List Letter) → inverse (inverse w) ≡ w
inverse-inverse [] = refl
inverse-inverse (x ∷ w) =
    ap inverse (inverse-cons x w) ∙ inverse-append (inverse w) (flipped x ∷ []) ∙ ap (λ l. l ∷ inverse (inverse w)) (flipped-flipped x)
    ∙ ap (λ v. x ∷ v) (inverse-inverse w)

-- ---- copies and powers

-- a sum of numbers of copies
pub copies-add : (m n : ℕ) (w : List Letter) → copies (m + n) w ≡ copies m w ++ copies n w
copies-add m zero w = let e : m + 0 ≡ m = omega arith in rw (e, append-nil)
copies-add m (suc n) w =
    let e : m + suc n ≡ suc (m + n) = omega arith in
    rw e (ap (λ v. v ++ w) (copies-add m n w) ∙ append_assoc (copies m w) (copies n w) w)

-- copies of copies
pub copies-mul : (m n : ℕ) (w : List Letter) → copies (m * n) w ≡ copies m (copies n w)
copies-mul zero n w = let e : 0 * n ≡ 0 = omega arith in rw e
copies-mul (suc m) n w =
    let e : suc m * n ≡ m * n + n = grind arith in
    rw e (copies-add (m * n) n w ∙ ap (λ v. v ++ copies n w) (copies-mul m n w))

-- one more copy in front
pub copies-suc : (n : ℕ) (w : List Letter) → w ++ copies n w ≡ copies n w ++ w
copies-suc zero w = append-nil w
copies-suc (suc n) w = sym (append_assoc w (copies n w) w) ∙ ap (λ v. v ++ w) (copies-suc n w)

-- the inverse of copies
pub inverse-copies : (n : ℕ) (w : List Letter) → inverse (copies n w) ≡ copies n (inverse w)
inverse-copies zero w = refl
inverse-copies (suc n) w =
    inverse-append (copies n w) w ∙ ap (λ v. inverse w ++ v) (inverse-copies n w) ∙ copies-suc n (inverse w)

-- copies of the empty word
pub copies_of_nothing : (n : ℕ) (w : List Letter) → length w ≡ 0 → copies n w ≡ []
copies_of_nothing zero w e = refl
copies_of_nothing (suc n) [] e = rw (copies_of_nothing n [] e)
copies_of_nothing (suc n) (x ∷ w) e = absurd (omega arith)

-- a power that is not negative
pub power-pos : (w : List Letter) (n : ℕ) → power w (pos n) ≡ copies n w
power-pos w n =
    let above : int_lt (pos n) (pos 0) ≡ false = grind (arith, nat_tests) in
    ap (λ (b : Bool). copies n (if b then inverse w else w)) above

-- the inverse of a power is the power of the opposite number
pub power-neg : (w : List Letter) (k : ℤ) → power w (neg_ℤ k) ≡ inverse (power w k)
power-neg w (pos zero) = refl
power-neg w (pos (suc n)) = sym (inverse-copies (suc n) w) ∙ ap inverse (sym (power-pos w (suc n)))
power-neg w (negsuc n) =
    power-pos w (suc n) ∙ ap (copies (suc n)) (sym (inverse-inverse w)) ∙ sym (inverse-copies (suc n) (inverse w))

-- the power of a sum of numbers that are not negative
pub power-add : (w : List Letter) (m n : ℕ) → power w (pos (m + n)) ≡ power w (pos m) ++ power w (pos n)
power-add w m n =
    power-pos w (m + n) ∙ copies-add m n w ∙ ap (λ v. v ++ copies n w) (sym (power-pos w m)) ∙ ap (λ v. power w (pos m) ++ v) (sym (power-pos w n))

-- the power of a power
pub power-mul : (w : List Letter) (m n : ℕ) → power w (pos (m * n)) ≡ power (power w (pos n)) (pos m)
power-mul w m n =
    power-pos w (m * n) ∙ copies-mul m n w ∙ ap (copies m) (sym (power-pos w n)) ∙ sym (power-pos (power w (pos n)) m)

-- what the laws of inverses and of powers stand on
pub ruleset inverses = (inverse-append, inverse-inverse)

pub ruleset powers = (power-add, power-mul, power-neg)

-- what a letter at the end does to a reduced word
pub ruleset ends = (IsReduced_push, IsReduced_pop, cancels_front, front_is_take)
