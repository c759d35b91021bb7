-- Lists of exponents given variable by variable.
use Rattle.std.proofs.Common.{◌≡◌, ℕ, zero, suc, ◌+◌, ◌-◌, ◌<◌, ◌≤◌, max, Bool, true, false, ◌&&◌, nat_le, List, [], ◌∷◌, sum, length, slice_index, IsTrue, ◌↔◌}
use Rattle.std.proofs.Common.{refl, sym, arith}
use Rattle.std.proofs.lemmas.List.Sums.{sum_by-cons}
use Rattle.laurent_terms.specs.Monomials.{degree, combined, product, quotient, common_multiple, divides}

-- the first n entries of u are those of s and t put together by f
abbrev pub CombinedBelow : (ℕ → ℕ → ℕ) → List ℕ → List ℕ → List ℕ → ℕ → Type 0
CombinedBelow f s t u n = (k : ℕ) → k < n → slice_index u k ≡ f (slice_index s k) (slice_index t k)

abbrev pub AtMostBelow : List ℕ → List ℕ → ℕ → Type 0
AtMostBelow s t n = (k : ℕ) → k < n → slice_index s k ≤ slice_index t k

pub combined_from_each : (f : ℕ → ℕ → ℕ) (s t u : List ℕ) → length s ≡ length u → length t ≡ length u → CombinedBelow f s t u (length u) → u ≡ combined f s t
combined_from_each f [] t [] a b h = refl
combined_from_each f [] t (z ∷ u) a b h = absurd (omega (arith, a))
combined_from_each f (x ∷ s) [] [] a b h = refl
combined_from_each f (x ∷ s) (y ∷ t) [] a b h = absurd (omega (arith, a))
combined_from_each f (x ∷ s) [] (z ∷ u) a b h = absurd (omega (arith, b))
combined_from_each f (x ∷ s) (y ∷ t) (z ∷ u) a b h =
    let first : z ≡ f x y = h 0 (omega arith) in
    let rest : u ≡ combined f s t = combined_from_each f s t u (omega (arith, a)) (omega (arith, b)) (λ k p. h (suc k) (omega (arith, p))) in
    λ i. first i ∷ rest i

-- at three lists of one length n
pub combined_at : (f : ℕ → ℕ → ℕ) (s t u : List ℕ) (n : ℕ) → length s ≡ n → length t ≡ n → length u ≡ n → CombinedBelow f s t u n → u ≡ combined f s t
combined_at f s t u n a b c h = combined_from_each f s t u (omega (arith, a, c)) (omega (arith, b, c)) (λ k p. h k (omega (arith, c)))

divides_from_each : (s t : List ℕ) → length s ≡ length t → AtMostBelow s t (length s) → divides s t ≡ true
divides_from_each [] t e h = refl
divides_from_each (x ∷ s) [] e h = absurd (omega (arith, e))
divides_from_each (x ∷ s) (y ∷ t) e h =
    let first : x ≤ y = h 0 (omega arith) in
    let rest : divides s t ≡ true = divides_from_each s t (omega (arith, e)) (λ k p. h (suc k) (omega (arith, p))) in
    let test : nat_le x y ≡ true = grind arith in
    rw (test, rest) refl

pub first_true : (a b : Bool) → a && b ≡ true → a ≡ true
first_true true b e = refl
first_true false b e = absurd cc

pub second_true : (a b : Bool) → a && b ≡ true → b ≡ true
second_true true b e = e
second_true false b e = absurd cc

pub each_from_divides : (s t : List ℕ) → divides s t ≡ true → AtMostBelow s t (length s)
each_from_divides [] t e k h = absurd (omega arith)
each_from_divides (x ∷ s) [] e k h = absurd cc
each_from_divides (x ∷ s) (y ∷ t) e zero h = let test : nat_le x y ≡ true = first_true (nat_le x y) (divides s t) e in grind arith
each_from_divides (x ∷ s) (y ∷ t) e (suc k) h = each_from_divides s t (second_true (nat_le x y) (divides s t) e) k (omega arith)

pub divides_is : (all : Bool) (s t : List ℕ) (n : ℕ) → IsTrue all ↔ AtMostBelow s t n → length s ≡ n → length t ≡ n → all ≡ divides s t
divides_is true s t n h a b = sym (divides_from_each s t (omega (arith, a, b)) (λ k p. h.0 refl k (omega (arith, a))))
divides_is false s t n h a b = by (divides s t) refl
  where
    by : (d : Bool) → divides s t ≡ d → false ≡ divides s t
    by false e = sym e
    by true e = let wrong : false ≡ true = h.1 (λ k p. each_from_divides s t e k (omega (arith, a))) in cc

pub sum-product : (s t : List ℕ) → length s ≡ length t → degree (product s t) ≡ degree s + degree t
sum-product [] [] e = refl
sum-product [] (y ∷ t) e = absurd (omega (arith, e))
sum-product (x ∷ s) [] e = absurd (omega (arith, e))
sum-product (x ∷ s) (y ∷ t) e =
    let rest : degree (product s t) ≡ degree s + degree t = sum-product s t (omega (arith, e)) in
    omega (arith, rest, sum_by-cons (λ v. v) x s, sum_by-cons (λ v. v) y t, sum_by-cons (λ v. v) (x + y) (product s t))

pub sum-quotient : (s t : List ℕ) → length s ≡ length t → divides t s ≡ true → degree (quotient s t) + degree t ≡ degree s
sum-quotient [] [] e h = refl
sum-quotient [] (y ∷ t) e h = absurd (omega (arith, e))
sum-quotient (x ∷ s) [] e h = absurd (omega (arith, e))
sum-quotient (x ∷ s) (y ∷ t) e h =
    let test : nat_le y x ≡ true = first_true (nat_le y x) (divides t s) h in
    let le : y ≤ x = grind arith in
    let rest : degree (quotient s t) + degree t ≡ degree s = sum-quotient s t (omega (arith, e)) (second_true (nat_le y x) (divides t s) h) in
    omega (arith, rest, le, sum_by-cons (λ v. v) x s, sum_by-cons (λ v. v) y t, sum_by-cons (λ v. v) (x - y) (quotient s t))

pub length-combined : (f : ℕ → ℕ → ℕ) (s t : List ℕ) → length s ≡ length t → length (combined f s t) ≡ length s
length-combined f [] t e = refl
length-combined f (x ∷ s) [] e = absurd (omega (arith, e))
length-combined f (x ∷ s) (y ∷ t) e = omega (arith, length-combined f s t (omega (arith, e)))

pub is_product : (s t u : List ℕ) (n : ℕ) → length s ≡ n → length t ≡ n → length u ≡ n → CombinedBelow (λ a b. a + b) s t u n → u ≡ product s t
is_product s t u n a b c h = combined_at (λ x y. x + y) s t u n a b c h

pub is_quotient : (s t u : List ℕ) (n : ℕ) → length s ≡ n → length t ≡ n → length u ≡ n → CombinedBelow (λ a b. a - b) s t u n → u ≡ quotient s t
is_quotient s t u n a b c h = combined_at (λ x y. x - y) s t u n a b c h

pub is_common_multiple : (s t u : List ℕ) (n : ℕ) → length s ≡ n → length t ≡ n → length u ≡ n → CombinedBelow (λ a b. max a b) s t u n
    → u ≡ common_multiple s t
is_common_multiple s t u n a b c h = combined_at (λ x y. max x y) s t u n a b c h
