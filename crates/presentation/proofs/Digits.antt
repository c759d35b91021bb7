-- How large a number of few digits is.
use Rattle.std.proofs.Common.{◌≡◌, ℕ, ◌+◌, ◌-◌, ◌*◌, ◌^◌, ◌<◌, ◌≤◌, Bool, true, false, List, [], ◌∷◌, length, take_while, Some, arith, refl}
use Rattle.std.proofs.lemmas.Bool.Decides.{nat_tests}
use Rattle.std.proofs.lemmas.List.Sums.{take_while-cons}
use native.Mathlib.Numerals.{unary_clauses}
use Rattle.std.proofs.Math.Nat.{mul-le-mul_right, pow-le-pow_right}
use Rattle.word_text.specs.Scan.{is_digit, digits_at, number, within}
use Rattle.word_text.proofs.Numbers.{within_some}

digit_small : (b : ℕ) → is_digit b ≡ true → b - 48 ≤ 9
unfolding is_digit
digit_small b e = grind (arith, nat_tests)

grown : (n b k p : ℕ) → b ≤ 9 → k + 1 ≤ (n * 10 + b + 1) * p → k + 1 ≤ (n + 1) * (10 * p)
grown n b k p small le =
    let tens : n * 10 + b + 1 ≤ (n + 1) * 10 = omega arith in
    omega (arith, le, mul-le-mul_right p tens)

-- a number of k digits behind n is below (n + 1) * 10 ^ k
below_by : (n b : ℕ) (bs : List ℕ) (t : Bool) → is_digit b ≡ t
    → ((m : ℕ) → number m (take_while is_digit bs) + 1 ≤ (m + 1) * 10 ^ length (take_while is_digit bs))
    → number n (take_while is_digit (b ∷ bs)) + 1 ≤ (n + 1) * 10 ^ length (take_while is_digit (b ∷ bs))
below_by n b bs true e h = rw (take_while-cons is_digit b bs, e) (simp unary_clauses (omega (
  arith,
  grown n (b - 48) (number (n * 10 + (b - 48)) (take_while is_digit bs)) (10 ^ length (take_while is_digit bs)) (digit_small b e) (h (n * 10 + (b - 48))),
)))
below_by n b bs false e h = rw (take_while-cons is_digit b bs, e) (omega arith)

below : (n : ℕ) (bs : List ℕ) → number n (take_while is_digit bs) + 1 ≤ (n + 1) * 10 ^ length (take_while is_digit bs)
below n [] = omega arith
below n (b ∷ bs) = below_by n b bs (is_digit b) refl (λ m. below m bs)

ten : 0 < 10
ten = omega arith

pub six_small : (bs : List ℕ) → length (digits_at bs) ≤ 6 → number 0 (digits_at bs) ≤ 999999
unfolding digits_at
six_small bs le = omega (arith, below 0 bs, pow-le-pow_right ten le)

-- such a number is given
pub six_fit : (bs : List ℕ) → length (digits_at bs) ≤ 6 → within 999999 (number 0 (digits_at bs)) ≡ Some (number 0 (digits_at bs))
six_fit bs le = within_some 999999 (number 0 (digits_at bs)) (six_small bs le)
