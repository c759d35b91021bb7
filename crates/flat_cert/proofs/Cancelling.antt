-- The product of two monomials with x_g·y_g cancelled, from the differences of exponents.
use Rattle.std.proofs.Common.{◌≡◌, ℕ, zero, suc, ◌+◌, ◌-◌, ◌*◌, ◌<◌, ℤ, pos, ◌+ℤ◌, ◌-ℤ◌, neg_ℤ, List, [], ◌∷◌, ◌++◌, length, slice_index, slice_index_or}
use Rattle.std.proofs.Common.{replicate, refl, sym, ap, ◌∙◌, arith, append-nil, sum_by}
use Rattle.std.specs.Prelude.{unsigned_abs, slice_set, ◌==◌, Bool, true, false, ◌≢◌}
use Rattle.std.proofs.lemmas.Bool.Decides.{nat_tests}
use Rattle.std.proofs.lemmas.List.{get_or-set_same, get_or-set_other}
use Rattle.laurent_terms.specs.Monomials.{degree, product, positive_part, negative_part, both_parts, monomial_of}
use Rattle.laurent_terms.proofs.IntegerVectors.{degree-monomial_of}
use Rattle.flat_cert.specs.Images.{cancelled}
use Rattle.flat_cert.specs.Adding.{difference_in}
use Rattle.flat_cert.proofs.Images.{positive_cancelled, negative_cancelled}

product_at : (s t : List ℕ) (k : ℕ) → length s ≡ length t → slice_index (product s t) k ≡ slice_index s k + slice_index t k
product_at [] [] k e = omega arith
product_at [] (b ∷ t) k e = absurd (omega (arith, e))
product_at (a ∷ s) [] k e = absurd (omega (arith, e))
product_at (a ∷ s) (b ∷ t) zero e = refl
product_at (a ∷ s) (b ∷ t) (suc k) e = product_at s t k (omega (arith, e))

length_product : (s t : List ℕ) → length s ≡ length t → length (product s t) ≡ length s
length_product [] t e = refl
length_product (a ∷ s) [] e = absurd (omega (arith, e))
length_product (a ∷ s) (b ∷ t) e = omega (arith, length_product s t (omega (arith, e)))

-- the numbers of p are the differences of the two exponents
parts_cancelled : (p : List ℤ) (s : List ℕ) → length s ≡ 2 * length p
    → ((g : ℕ) → g < length p → slice_index_or p g (pos 0) ≡ pos (slice_index s (2 * g)) -ℤ pos (slice_index s (2 * g + 1)))
    → both_parts p ≡ cancelled s
parts_cancelled [] [] e h = refl
parts_cancelled [] (a ∷ s) e h = absurd (omega (arith, e))
parts_cancelled (z ∷ p) [] e h = absurd (omega (arith, e))
parts_cancelled (z ∷ p) (a ∷ []) e h = absurd (omega (arith, e))
parts_cancelled (z ∷ p) (a ∷ b ∷ s) e h =
    let first : z ≡ pos a +ℤ neg_ℤ (pos b) = h 0 (omega arith) in
    let rest : both_parts p ≡ cancelled s = parts_cancelled p s (omega (arith, e)) (λ g lt.
    let even : 2 * suc g ≡ suc (suc (2 * g)) = omega arith in
    let odd : 2 * suc g + 1 ≡ suc (suc (2 * g + 1)) = omega arith in
    h (suc g) (omega (arith, lt))
    ∙ λ i. pos (slice_index (a ∷ b ∷ s) (even i)) -ℤ pos (slice_index (a ∷ b ∷ s) (odd i))) in
    λ i. (ap positive_part first ∙ positive_cancelled a b) i ∷ (ap negative_part first ∙ negative_cancelled a b) i ∷ rest i

pub product_cancelled : (p : List ℤ) (s t : List ℕ) → length p ≡ 24 → length s ≡ 48 → length t ≡ 48
    → ((g : ℕ) → g < 24 → slice_index_or p g (pos 0) ≡ difference_in s t g) → monomial_of p ≡ cancelled (product s t)
product_cancelled p s t count long long' h =
    let none : 48 - 2 * length p ≡ 0 = omega (arith, count) in
    let same : length s ≡ length t = omega (arith, long, long') in
    ap (λ k. both_parts p ++ replicate k 0) none
    ∙ append-nil (both_parts p)
    ∙ parts_cancelled p (product s t) (omega (arith, length_product s t same, long, count)) (λ g lt.
    h g (omega (arith, lt, count))
    ∙ λ i. pos (sym (product_at s t (2 * g) same) i) -ℤ pos (sym (product_at s t (2 * g + 1) same) i))

pub degree_cancelled : (p : List ℤ) (s : List ℕ) → monomial_of p ≡ s → sum_by unsigned_abs p ≡ degree s
degree_cancelled p s e = sym (degree-monomial_of p) ∙ ap degree e

-- one difference more
pub next_each : (made : List ℤ) (s t : List ℕ) (g : ℕ) (z : ℤ) → length made ≡ 24 → g < 24 → z ≡ difference_in s t g
    → ((k : ℕ) → k < g → slice_index_or made k (pos 0) ≡ difference_in s t k)
    → (k : ℕ) → k < g + 1 → slice_index_or (slice_set made g z) k (pos 0) ≡ difference_in s t k
next_each made s t g z count below is each k lt = by (k == g) refl
  where
    by : (b : Bool) → (k == g) ≡ b → slice_index_or (slice_set made g z) k (pos 0) ≡ difference_in s t k
    by true e =
        let same : k ≡ g = grind (arith, nat_tests) in
        ap (λ i. slice_index_or (slice_set made g z) i (pos 0)) same ∙ get_or-set_same made g z (pos 0) (omega (arith, count, below)) ∙ is
        ∙ ap (difference_in s t) (sym same)
    by false e =
        let other : k ≢ g = grind (arith, nat_tests) in
        get_or-set_other made g k z (pos 0) other ∙ each k (omega (arith, lt, other))
