-- Euclid's algorithm, one division at a time.
use Rattle.std.proofs.Common.{◌≡◌, ℕ, zero, suc, ◌+◌, ◌-◌, ◌*◌, ◌/◌, ◌%◌, ◌<◌, ◌≤◌, refl, sym, ap, ◌∙◌, arith}
use Rattle.std.specs.Int.{IsGcd}
use Rattle.std.proofs.Math.Nat.{mul-le-mul_left, le_of_mul-le-mul_left, div-mul_cancel}
use Rattle.std.proofs.lemmas.Nat.Gcd.{IsGcd-from_mod}
use Rattle.laurent_terms.specs.Factors.{IsFactors}

pub at_most : (d m n : ℕ) → 0 < d → m * d ≤ n * d → m ≤ n
at_most d m n some h = let turned : d * m ≤ d * n = omega arith in le_of_mul-le-mul_left turned some

-- what the factors of b and the rest r give for a = q * b + r, where b = y * d and r = z * d
module _ (q r b d y z u w : ℕ) (is_b : b ≡ y * d) (is_r : r ≡ z * d) (inner : u * b ≡ d + w * r) where
  sum_up : (v x : ℕ) → v + w ≡ y → x + u ≡ z → v * (q * b + r) ≡ d + (q * v + x) * b
  sum_up v x p s =
      let both : (v + w) * r ≡ y * r = ap (λ n. n * r) p in
      let other : (x + u) * b ≡ z * b = ap (λ n. n * b) s in
      let yr : y * r ≡ y * (z * d) = ap (λ n. y * n) is_r in
      let zb : z * b ≡ z * (y * d) = ap (λ n. z * n) is_b in
      let rest : v * r ≡ d + x * b = omega arith in
      omega arith

  first_in : (v : ℕ) → v + w ≡ y → v * d ≤ b
  first_in v p = let e : (v + w) * d ≡ y * d = ap (λ n. n * d) p in omega arith

  second_in : (v x : ℕ) → v + w ≡ y → x + u ≡ z → (q * v + x) * d ≤ q * b + r
  second_in v x p s =
      let e : (x + u) * d ≡ z * d = ap (λ n. n * d) s in
      let f : q * (v * d) ≤ q * b = mul-le-mul_left q (first_in v p) in
      omega arith

module _ (a b d u w : ℕ) (some : 0 < b) (inner : IsFactors b (a % b) d u w) where
  pub first_room : w ≤ b / d
  first_room = at_most d w (b / d) inner.positive (omega (arith, inner.second, div-mul_cancel d inner.divisor.0))

  pub second_room : u ≤ (a % b) / d
  second_room = at_most d u ((a % b) / d) inner.positive (omega (arith, inner.first, div-mul_cancel d inner.divisor.1))

  abbrev first : ℕ
  first = b / d - w

  abbrev left : ℕ
  left = (a % b) / d - u

  pub next_factors : IsFactors a b d first (a / b * first + left)
  next_factors =
      let y : b ≡ (b / d) * d = sym (div-mul_cancel d inner.divisor.0) in
      let z : a % b ≡ ((a % b) / d) * d = sym (div-mul_cancel d inner.divisor.1) in
      let v : first + w ≡ b / d = omega (arith, first_room) in
      let x : left + u ≡ (a % b) / d = omega (arith, second_room) in
      let whole : a ≡ (a / b) * b + a % b = omega arith in
      let sum : first * ((a / b) * b + a % b) ≡ d + (a / b * first + left) * b =
      sum_up (a / b) (a % b) b d (b / d) ((a % b) / d) u w y z inner.sum first left v x in
      record {
        divisor = IsGcd-from_mod a b d inner.divisor;
        positive = inner.positive;
        sum = ap (λ n. first * n) whole ∙ sum;
        first = first_in (a / b) (a % b) b d (b / d) ((a % b) / d) u w y z inner.sum first v;
        second = omega (arith, second_in (a / b) (a % b) b d (b / d) ((a % b) / d) u w y z inner.sum first left v x);
      }
