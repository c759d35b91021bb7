-- Powers of a variable, as monomials of integer vectors.
use Rattle.std.proofs.Common.{◌≡◌, ◌≢◌, ℕ, zero, suc, ◌+◌, ◌*◌, ◌/◌, ◌%◌, ◌<◌, ℤ, pos, Option, negsuc, neg_ℤ, unsigned_abs, List, ◌∷◌, length, slice_set}
use Rattle.std.proofs.Common.{replicate, refl, ap, subst, ◌∙◌, arith, append-nil, sum_by}
use Rattle.std.proofs.lemmas.List.Sums.{sum_by-set}
use Rattle.std.proofs.lemmas.List.Folds.{sum_by-replicate}
use Rattle.std.proofs.lemmas.List.{get_or-replicate, length-replicate, length-set}
use Rattle.laurent_terms.specs.Monomials.{MadeWithin, one, monomial_of, both_parts}

total_of : (n g : ℕ) (z : ℤ) → g < n → sum_by unsigned_abs (slice_set (replicate n (pos 0)) g z) ≡ unsigned_abs z
total_of n g z lt =
    let whole = sum_by-set unsigned_abs (replicate n (pos 0)) g z (pos 0) (omega (arith, length-replicate n (pos 0))) in
    omega (arith, whole, sum_by-replicate unsigned_abs n (pos 0), ap unsigned_abs (get_or-replicate n g (pos 0) (pos 0) lt))

pub total_set : (g : ℕ) (z : ℤ) → 2 * g < 48 → sum_by unsigned_abs (slice_set (replicate 24 (pos 0)) g z) ≡ unsigned_abs z
total_set g z lt = total_of 24 g z (omega arith)

positive_set : (n g e : ℕ) → both_parts (slice_set (replicate n (pos 0)) g (pos e)) ≡ slice_set (both_parts (replicate n (pos 0))) (2 * g) e
positive_set zero g e = refl
positive_set (suc n) zero e = refl
positive_set (suc n) (suc g) e =
    let twice : 2 * suc g ≡ suc (suc (2 * g)) = omega arith in
    rw (twice) (ap (λ (s : List ℕ). 0 ∷ 0 ∷ s) (positive_set n g e))

negative_set : (n g e : ℕ) → both_parts (slice_set (replicate n (pos 0)) g (negsuc e)) ≡ slice_set (both_parts (replicate n (pos 0))) (2 * g + 1) (suc e)
negative_set zero g e = refl
negative_set (suc n) zero e = refl
negative_set (suc n) (suc g) e =
    let twice : 2 * suc g + 1 ≡ suc (suc (2 * g + 1)) = omega arith in
    rw (twice) (ap (λ (s : List ℕ). 0 ∷ 0 ∷ s) (negative_set n g e))

set_length : (n g : ℕ) (z : ℤ) → length (slice_set (replicate n (pos 0)) g z) ≡ n
set_length n g z = length-set (replicate n (pos 0)) g z ∙ length-replicate n (pos 0)

whole : (g : ℕ) (z : ℤ) → monomial_of (slice_set (replicate 24 (pos 0)) g z) ≡ both_parts (slice_set (replicate 24 (pos 0)) g z)
whole g z = rw (set_length 24 g z) (append-nil (both_parts (slice_set (replicate 24 (pos 0)) g z)))

positive_power : (g e : ℕ) → monomial_of (slice_set (replicate 24 (pos 0)) g (pos e)) ≡ slice_set one (2 * g) e
positive_power g e = whole g (pos e) ∙ positive_set 24 g e

negative_power : (g e : ℕ) → monomial_of (slice_set (replicate 24 (pos 0)) g (negsuc e)) ≡ slice_set one (2 * g + 1) (suc e)
negative_power g e = whole g (negsuc e) ∙ negative_set 24 g e

pub even_power : (v e : ℕ) (z : ℤ) (r : Option (List ℕ)) → v % 2 ≡ 0 → z ≡ pos e
    → MadeWithin (unsigned_abs z) (monomial_of (slice_set (replicate 24 (pos 0)) (v / 2) z)) r → MadeWithin e (slice_set one v e) r
even_power v e z r is same h =
    let twice : 2 * (v / 2) ≡ v = omega (arith, is) in
    let made : monomial_of (slice_set (replicate 24 (pos 0)) (v / 2) z) ≡ slice_set one v e = rw (same, positive_power (v / 2) e, twice) refl in
    let P : List ℕ → Type 0 = λ s. MadeWithin e s r in
    subst P made (let Q : ℤ → Type 0 = λ y. MadeWithin (unsigned_abs y) (monomial_of (slice_set (replicate 24 (pos 0)) (v / 2) z)) r in subst Q same h)

pub odd_power : (v e : ℕ) (z : ℤ) (r : Option (List ℕ)) → v % 2 ≢ 0 → 0 < e → z ≡ neg_ℤ (pos e)
    → MadeWithin (unsigned_abs z) (monomial_of (slice_set (replicate 24 (pos 0)) (v / 2) z)) r → MadeWithin e (slice_set one v e) r
odd_power v zero z r is some same h = absurd (omega arith)
odd_power v (suc e) z r is some same h =
    let twice : 2 * (v / 2) + 1 ≡ v = omega (arith, is) in
    let made : monomial_of (slice_set (replicate 24 (pos 0)) (v / 2) z) ≡ slice_set one v (suc e) = rw (same, negative_power (v / 2) e, twice) refl in
    let P : List ℕ → Type 0 = λ s. MadeWithin (suc e) s r in
    subst P made (let Q : ℤ → Type 0 = λ y. MadeWithin (unsigned_abs y) (monomial_of (slice_set (replicate 24 (pos 0)) (v / 2) z)) r in subst Q same h)
