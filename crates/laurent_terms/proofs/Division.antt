-- Products, quotients and common multiples, exponent by exponent.
use Rattle.std.proofs.Common.{◌≡◌, ℕ, zero, suc, ◌+◌, ◌-◌, ◌<◌, ◌≤◌, max, Bool, true, false, nat_le, ◌&&◌, List, [], ◌∷◌, length, replicate, ◌↔◌, refl, sym, ap}
use Rattle.std.proofs.Common.{◌∙◌, arith, zero-add, add_comm, add_assoc}
use Rattle.std.proofs.lemmas.List.Sums.{sum_by-cons}
use Rattle.laurent_terms.specs.declared.TheConstants.{VARIABLES}
use Rattle.laurent_terms.specs.Monomials.{degree, combined, product, quotient, common_multiple, divides, one}
use Rattle.laurent_terms.proofs.Combining.{first_true, second_true}

test_le : (x y : ℕ) → nat_le x y ≡ true → x ≤ y
test_le x y e = grind arith

le_test : (x y : ℕ) → x ≤ y → nat_le x y ≡ true
le_test x y e = grind arith

-- what divides says of the first exponents and of the others
first_le : (x y : ℕ) (s t : List ℕ) → divides (x ∷ s) (y ∷ t) ≡ true → x ≤ y
first_le x y s t e = test_le x y (first_true (nat_le x y) (divides s t) e)

others : (x y : ℕ) (s t : List ℕ) → divides (x ∷ s) (y ∷ t) ≡ true → divides s t ≡ true
others x y s t e = second_true (nat_le x y) (divides s t) e

both : (x y : ℕ) (s t : List ℕ) → x ≤ y → divides s t ≡ true → divides (x ∷ s) (y ∷ t) ≡ true
both x y s t h e = rw (le_test x y h) e

-- ---- a partial order

pub divides_self : (s : List ℕ) → divides s s ≡ true
divides_self [] = refl
divides_self (x ∷ s) = both x x s s (omega arith) (divides_self s)

pub divides_trans : (r s t : List ℕ) → divides r s ≡ true → divides s t ≡ true → divides r t ≡ true
divides_trans [] s t e f = refl
divides_trans (x ∷ r) [] t e f = absurd cc
divides_trans (x ∷ r) (y ∷ s) [] e f = absurd cc
divides_trans (x ∷ r) (y ∷ s) (z ∷ t) e f = both x z r t (omega (arith, first_le x y r s e, first_le y z s t f))
    (divides_trans r s t (others x y r s e) (others y z s t f))

pub divides_antisym : (s t : List ℕ) → divides s t ≡ true → divides t s ≡ true → s ≡ t
divides_antisym [] [] e f = refl
divides_antisym [] (y ∷ t) e f = absurd cc
divides_antisym (x ∷ s) [] e f = absurd cc
divides_antisym (x ∷ s) (y ∷ t) e f =
    let first : x ≡ y = omega (arith, first_le x y s t e, first_le y x t s f) in
    let rest : s ≡ t = divides_antisym s t (others x y s t e) (others y x t s f) in
    λ i. first i ∷ rest i

-- ---- products and quotients

pub divides-product : (s t : List ℕ) → length s ≡ length t → divides s (product s t) ≡ true
divides-product [] t e = refl
divides-product (x ∷ s) [] e = absurd (omega (arith, e))
divides-product (x ∷ s) (y ∷ t) e = both x (x + y) s (product s t) (omega arith) (divides-product s t (omega (arith, e)))

pub quotient-product : (s t : List ℕ) → length s ≡ length t → quotient (product s t) s ≡ t
quotient-product [] [] e = refl
quotient-product [] (y ∷ t) e = absurd (omega (arith, e))
quotient-product (x ∷ s) [] e = absurd (omega (arith, e))
quotient-product (x ∷ s) (y ∷ t) e =
    let first : (x + y) - x ≡ y = omega arith in
    let rest : quotient (product s t) s ≡ t = quotient-product s t (omega (arith, e)) in
    λ i. first i ∷ rest i

pub product-quotient : (s t : List ℕ) → length s ≡ length t → divides s t ≡ true → product s (quotient t s) ≡ t
product-quotient [] [] e h = refl
product-quotient [] (y ∷ t) e h = absurd (omega (arith, e))
product-quotient (x ∷ s) [] e h = absurd (omega (arith, e))
product-quotient (x ∷ s) (y ∷ t) e h =
    let first : x + (y - x) ≡ y = omega (arith, first_le x y s t h) in
    let rest : product s (quotient t s) ≡ t = product-quotient s t (omega (arith, e)) (others x y s t h) in
    λ i. first i ∷ rest i

pub product_assoc : (r s t : List ℕ) → product (product r s) t ≡ product r (product s t)
product_assoc [] s t = refl
product_assoc (x ∷ r) [] t = refl
product_assoc (x ∷ r) (y ∷ s) [] = refl
product_assoc (x ∷ r) (y ∷ s) (z ∷ t) = λ i. add_assoc x y z i ∷ product_assoc r s t i

pub product_comm : (s t : List ℕ) → product s t ≡ product t s
product_comm [] [] = refl
product_comm [] (y ∷ t) = refl
product_comm (x ∷ s) [] = refl
product_comm (x ∷ s) (y ∷ t) = λ i. add_comm x y i ∷ product_comm s t i

zeros-product : (n : ℕ) (s : List ℕ) → length s ≡ n → product (replicate n 0) s ≡ s
zeros-product zero [] e = refl
zeros-product zero (x ∷ s) e = absurd (omega (arith, e))
zeros-product (suc n) [] e = absurd (omega (arith, e))
zeros-product (suc n) (x ∷ s) e = λ i. zero-add x i ∷ zeros-product n s (omega (arith, e)) i

pub product-one : (s : List ℕ) → length s ≡ VARIABLES → product one s ≡ s
product-one s e = zeros-product VARIABLES s e

-- ---- common multiples

pub divides-common_multiple : (s t u : List ℕ) → length s ≡ length t → (divides (common_multiple s t) u ≡ true) ↔ ((divides s u ≡ true) × (divides t u ≡ true))
divides-common_multiple [] [] u e = (λ h. (refl, refl), λ h. refl)
divides-common_multiple [] (y ∷ t) u e = absurd (omega (arith, e))
divides-common_multiple (x ∷ s) [] u e = absurd (omega (arith, e))
divides-common_multiple (x ∷ s) (y ∷ t) [] e = (λ h. absurd cc, λ h. absurd (false_true h.0))
  where
    false_true : false ≡ true → ⊥
    false_true h = cc
divides-common_multiple (x ∷ s) (y ∷ t) (z ∷ u) e =
    let rest : (divides (common_multiple s t) u ≡ true) ↔ ((divides s u ≡ true) × (divides t u ≡ true)) = divides-common_multiple s t u (omega (arith, e)) in (
      λ h.
          let low : max x y ≤ z = first_le (max x y) z (common_multiple s t) u h in
          let more : (divides s u ≡ true) × (divides t u ≡ true) = rest.0 (others (max x y) z (common_multiple s t) u h) in
          (both x z s u (omega (arith, low)) more.0, both y z t u (omega (arith, low)) more.1),
      λ h. both (max x y) z (common_multiple s t) u (omega (arith, first_le x z s u h.0, first_le y z t u h.1))
          (rest.1 (others x z s u h.0, others y z t u h.1)),
    )

pub degree-common_multiple : (s t : List ℕ) → length s ≡ length t → degree (common_multiple s t) ≤ degree s + degree t
degree-common_multiple [] t e = omega arith
degree-common_multiple (x ∷ s) [] e = absurd (omega (arith, e))
degree-common_multiple (x ∷ s) (y ∷ t) e = omega (
  arith,
  degree-common_multiple s t (omega (arith, e)),
  sum_by-cons (λ v. v) x s,
  sum_by-cons (λ v. v) y t,
  sum_by-cons (λ v. v) (max x y) (common_multiple s t),
)
