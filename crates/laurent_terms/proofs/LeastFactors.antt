-- From the factors of two natural numbers to those of two positive integers, the first as small as can be.
use Rattle.std.proofs.Common.{◌≡◌, ℕ, zero, suc, Bool, true, false, ◌+◌, ◌-◌, ◌*◌, ◌/◌, ◌^◌, ◌<◌, ◌≤◌, ◌⊎◌, inl, inr, refl, sym, ap, subst, ◌∙◌, arith, ℤ, pos}
use Rattle.std.proofs.Common.{negsuc, neg_ℤ, ◌+ℤ◌, ◌*ℤ◌, ◌-ℤ◌, ◌<ℤ◌, ◌≤ℤ◌, to_z, of_z}
use borrow.Author.Differences.{up, down, ints}
use Rattle.std.specs.Prelude.{unsigned_abs, nat_lt, FitsSigned}
use Rattle.std.specs.Int.{IsGcd, w128}
use Rattle.std.proofs.Math.Nat.{mul-le-mul_left, div-mul_cancel}
use Rattle.std.proofs.lemmas.Int.{to_z-of_z}
use Rattle.std.proofs.lemmas.Nat.Gcd.{le_of_dvd}
use Rattle.laurent_terms.specs.Factors.{IsFactors, IsBezout}
use Rattle.laurent_terms.proofs.Divisors.{at_most}

below_or_not : (m n : ℕ) → (m < n) ⊎ (n ≤ m)
below_or_not m n = by (nat_lt m n) refl
  where
    by : (t : Bool) → nat_lt m n ≡ t → (m < n) ⊎ (n ≤ m)
    by true e = inl (grind arith)
    by false e = inr (grind arith)

less_by : (d m n : ℕ) → m * d < n * d → m < n
less_by d m n h = by (below_or_not m n)
  where
    by : (m < n) ⊎ (n ≤ m) → m < n
    by (inl l) = l
    by (inr l) = let turned : d * n ≤ d * m = mul-le-mul_left d l in absurd (omega (arith, turned))

abs_neg : (w : ℕ) → unsigned_abs (neg_ℤ (pos w)) ≡ w
abs_neg zero = refl
abs_neg (suc w) = refl

in_integers : (a b d u w : ℕ) → u * a ≡ d + w * b → pos u *ℤ pos a +ℤ neg_ℤ (pos w) *ℤ pos b ≡ pos d
in_integers a b d u zero e = omega (arith, ints, e)
in_integers a b d u (suc w) e = omega (arith, ints, e)

negated : (w : ℕ) → w < 2 ^ 127 → to_z w128 (of_z w128 (pos 0 -ℤ to_z w128 w)) ≡ neg_ℤ (pos w)
negated zero h = omega (arith, ints)
negated (suc w) h = omega (arith, ints)

positive_is : (z : ℤ) → pos 0 <ℤ z → z ≡ pos (unsigned_abs z)
positive_is (pos n) h = refl
positive_is (negsuc n) h = absurd (omega (arith, ints, h))

-- two multiples of b that are less than b apart are equal
none_between : (t b m n : ℕ) → t + b * m ≡ b * n → t < b → t ≡ 0
none_between t b m n e h = by (below_or_not m n)
  where
    by : (m < n) ⊎ (n ≤ m) → t ≡ 0
    by (inl l) = let more : b * suc m ≤ b * n = mul-le-mul_left b l in absurd (omega (arith, more))
    by (inr l) = let more : b * n ≤ b * m = mul-le-mul_left b l in omega (arith, more)

same_by : (d m n : ℕ) → 0 < d → m * d ≡ n * d → m ≡ n
same_by d m n some e = let below : m ≤ n = at_most d m n some (omega arith) in let above : n ≤ m = at_most d n m some (omega arith) in omega arith

-- over y = a/d and z = b/d
module _ (d y z u w : ℕ) (some : 0 < d) (sum : u * (y * d) ≡ d + w * (z * d)) where
  over : u * y ≡ 1 + w * z
  over = same_by d (u * y) (1 + w * z) some (omega arith)

  -- were the first factor b/d, then d would be b
  all_or_less : u * d ≡ z * d → z ≡ 1
  all_or_less e = by (below_or_not w y)
    where
      is : u ≡ z
      is = same_by d u z some e

      turned : z * y ≡ 1 + w * z
      turned = let same : u * y ≡ z * y = ap (λ n. n * y) is in omega (arith, over)

      by : (w < y) ⊎ (y ≤ w) → z ≡ 1
      by (inl l) =
          let more : z * suc w ≤ z * y = mul-le-mul_left z l in
          some_z z refl (omega (arith, turned, more))
        where
          some_z : (n : ℕ) → z ≡ n → z ≤ 1 → z ≡ 1
          some_z zero f h = let zero_left : z * y ≡ 0 * y = ap (λ n. n * y) f in absurd (omega (arith, turned))
          some_z (suc n) f h = omega arith
      by (inr l) = let more : z * y ≤ z * w = mul-le-mul_left z l in absurd (omega (arith, turned, more))

  least_over : (x p q : ℕ) → x * (y * d) + p * (z * d) ≡ d + q * (z * d) → u < z → u ≤ x
  least_over x p q e below = by (below_or_not x u)
    where
      by : (x < u) ⊎ (u ≤ x) → u ≤ x
      by (inr l) = l
      by (inl l) =
          let t : (u - x) + x ≡ u = omega arith in
          let other : x * y + p * z ≡ 1 + q * z = same_by d (x * y + p * z) (1 + q * z) some (omega arith) in
          let whole : ((u - x) + x) * y ≡ u * y = ap (λ n. n * y) t in
          let apart : (u - x) * y + q * z ≡ (w + p) * z = omega (arith, over) in
          let first : u * ((u - x) * y + q * z) ≡ u * ((w + p) * z) = ap (λ n. u * n) apart in
          let second : (u - x) * (u * y) ≡ (u - x) * (1 + w * z) = ap (λ n. (u - x) * n) over in
          let nothing : u - x ≡ 0 = none_between (u - x) z ((u - x) * w + u * q) (u * (w + p)) (omega arith) (omega arith) in
          omega arith

-- for the numbers a and b, where the greatest common divisor d is not b itself
module _ (a b d u w : ℕ) (some : 0 < a) (f : IsFactors a b d u w) where
  whole_a : a ≡ (a / d) * d
  whole_a = sym (div-mul_cancel d f.divisor.0)

  whole_b : b ≡ (b / d) * d
  whole_b = sym (div-mul_cancel d f.divisor.1)

  sum : u * ((a / d) * d) ≡ d + w * ((b / d) * d)
  sum = let e : u * a ≡ u * ((a / d) * d) = ap (λ n. u * n) whole_a in let g : w * b ≡ w * ((b / d) * d) = ap (λ n. w * n) whole_b in omega (arith, f.sum)

  strict : (d ≡ b → ⊥) → u * d < b
  strict other = by (below_or_not (u * d) b)
    where
      by : (u * d < b) ⊎ (b ≤ u * d) → u * d < b
      by (inl l) = l
      by (inr l) =
          let whole : u * d ≡ (b / d) * d = omega (arith, f.first, whole_b) in
          let unit : b / d ≡ 1 = all_or_less d (a / d) (b / d) u w f.positive sum whole in
          let same : b ≡ 1 * d = whole_b ∙ ap (λ n. n * d) unit in
          absurd (other (omega arith))

  pub first-le : u ≤ b
  first-le = at_most d u b f.positive (omega (arith, f.first, mul-le-mul_left b f.positive))

  least_part : (d ≡ b → ⊥) → (x p q : ℕ) → x * a + p * b ≡ d + q * b → u ≤ x
  least_part other x p q e =
      let xa : x * a ≡ x * ((a / d) * d) = ap (λ n. x * n) whole_a in
      let pb : p * b ≡ p * ((b / d) * d) = ap (λ n. p * n) whole_b in
      let qb : q * b ≡ q * ((b / d) * d) = ap (λ n. q * n) whole_b in
      let below : u < b / d = less_by d u (b / d) (omega (arith, strict other, whole_b)) in
      least_over d (a / d) (b / d) u w f.positive sum x p q (omega (arith, e, xa, pb, qb)) below

  least_integer : (d ≡ b → ⊥) → (x y : ℤ) → pos 0 ≤ℤ x → x *ℤ pos a +ℤ y *ℤ pos b ≡ pos d → pos u ≤ℤ x
  least_integer other (pos x) y natural e = let l : u ≤ x = least_part other x (up y) (down y) (omega (arith, ints, e)) in omega (arith, ints, l)
  least_integer other (negsuc x) y natural e = absurd (omega (arith, ints, natural))

  less : (d ≡ b → ⊥) → IsBezout (pos a) (pos b) (pos d) (pos u) (neg_ℤ (pos w))
  less other = record {
    divisor = f.divisor;
    positive = omega (arith, ints, f.positive);
    sum = in_integers a b d u w f.sum;
    natural = omega (arith, ints);
    least = least_integer other;
    below = omega (arith, ints, strict other);
    within = rw (abs_neg w) f.second;
  }

  equal : d ≡ b → IsBezout (pos a) (pos b) (pos b) (pos 0) (pos 1)
  equal e = record {
    divisor = subst (λ z. IsGcd a b z) e f.divisor;
    positive = omega (arith, ints, f.positive);
    sum = omega (arith, ints);
    natural = omega (arith, ints);
    least = λ x y natural h. natural;
    below = omega (arith, ints, f.positive);
    within = omega (arith, le_of_dvd some f.divisor.0);
  }

-- as the code has them, with the absolute values of positive integers for a and b
module _ (c1 c2 : ℤ) (fits_c1 : FitsSigned w128 c1) (fits_c2 : FitsSigned w128 c2) (first : pos 0 <ℤ c1) (second : pos 0 <ℤ c2) (a b : ℕ) (is_a : a
    ≡ unsigned_abs (to_z w128 (of_z w128 c1))) (is_b : b ≡ unsigned_abs (to_z w128 (of_z w128 c2))) (d u w : ℕ) (f : IsFactors a b d u w) where
  at_a : c1 ≡ pos a
  at_a = positive_is c1 first ∙ ap pos (sym (simp to_z-of_z at is_a))

  at_b : c2 ≡ pos b
  at_b = positive_is c2 second ∙ ap pos (sym (simp to_z-of_z at is_b))

  fits_a : FitsSigned w128 (pos a)
  fits_a = subst (FitsSigned w128) at_a fits_c1

  fits_b : FitsSigned w128 (pos b)
  fits_b = subst (FitsSigned w128) at_b fits_c2

  some_a : 0 < a
  some_a = let p : pos 0 <ℤ pos a = subst (λ z. pos 0 <ℤ z) at_a first in omega (arith, ints, p)

  some_b : 0 < b
  some_b = let p : pos 0 <ℤ pos b = subst (λ z. pos 0 <ℤ z) at_b second in omega (arith, ints, p)

  u_small : u < 2 ^ 127
  u_small = omega (arith, ints, fits_b, first-le a b d u w some_a f)

  d_small : d < 2 ^ 127
  d_small = omega (arith, ints, fits_b, le_of_dvd some_b f.divisor.1)

  w_small : w < 2 ^ 127
  w_small = omega (arith, ints, fits_a, at_most d w a f.positive (omega (arith, f.second, mul-le-mul_left a f.positive)))

  pub first_fits : FitsSigned w128 (pos u)
  first_fits = omega (arith, ints, u_small)

  pub bezout_equal : d ≡ b → IsBezout c1 c2 (to_z w128 (of_z w128 c2)) (pos 0) (pos 1)
  bezout_equal e = simp to_z-of_z (rw (at_a, at_b) (equal a b d u w some_a f e))

  pub bezout_less : (d ≡ b → ⊥) → IsBezout c1 c2 (to_z w128 d) (to_z w128 u) (to_z w128 (of_z w128 (pos 0 -ℤ to_z w128 w)))
  bezout_less other =
      let x : to_z w128 d ≡ pos d = omega (arith, ints, d_small) in
      let y : to_z w128 u ≡ pos u = omega (arith, ints, u_small) in
      let z : to_z w128 (of_z w128 (pos 0 -ℤ to_z w128 w)) ≡ neg_ℤ (pos w) = negated w w_small in
      rw (at_a, at_b, x, y, z) (less a b d u w some_a f other)
