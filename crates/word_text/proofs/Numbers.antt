-- Numbers of decimal digits, digit by digit.
use Rattle.std.proofs.lemmas.List.Sums.{prefix_len_passes}
use Rattle.std.proofs.lemmas.List.Folds.{length-prefix_len}
use Rattle.std.specs.List.{prefix_len}
use Rattle.std.proofs.lemmas.List.{drop_all}
use Rattle.std.proofs.lemmas.Bool.Decides.{nat_tests}
use Rattle.std.proofs.Common.{get_or-take, take_while, IsTrue, ◌≡◌, ℕ, ◌+◌, ◌-◌, ◌*◌, ◌<◌, ◌≤◌, List, [], ◌∷◌, length, drop, get_or, Some, None, refl, ◌∙◌}
use Rattle.std.proofs.Common.{drop-cons, add-one, arith}
use Rattle.word_text.specs.Scan.{number, within, is_digit}

-- more digits never make a number smaller
pub number_grows : (n : ℕ) (ds : List ℕ) → n ≤ number n ds
number_grows n [] = omega arith
number_grows n (d ∷ ds) = omega (arith, number_grows (n * 10 + (d - 48)) ds)

-- one more digit is read
pub number_more : (all : List ℕ) (i n : ℕ) → i < length all → number 0 all ≡ number n (drop i all)
    → number 0 all ≡ number (n * 10 + (get_or all i 0 - 48)) (drop (i + 1) all)
number_more all i n lt so_far = so_far ∙ rw (drop-cons all i 0 lt, add-one) refl

pub within_none : (limit n : ℕ) → limit < n → within limit n ≡ None
within_none limit n lt = grind (arith, nat_tests)

pub within_some : (limit n : ℕ) → n ≤ limit → within limit n ≡ Some n
within_some limit n le = grind (arith, nat_tests)

-- all digits are read
pub number_done : (all : List ℕ) (i n limit : ℕ) → length all ≤ i → number 0 all ≡ number n (drop i all)
    → n ≤ limit → within limit (number 0 all) ≡ Some n
number_done all i n limit le so_far small =
    let e : number 0 all ≡ n = so_far ∙ rw (drop_all i all le) refl in
    rw e (within_some limit n small)

-- a number that has passed the limit stays past it
pub number_past : (all : List ℕ) (i n limit : ℕ) → i < length all → number 0 all ≡ number n (drop i all)
    → limit < n * 10 + (get_or all i 0 - 48) → within limit (number 0 all) ≡ None
number_past all i n limit lt so_far past =
    let m = number_more all i n lt so_far in
    within_none limit (number 0 all) (omega (arith, m, number_grows (n * 10 + (get_or all i 0 - 48)) (drop (i + 1) all)))

-- the digits at the head are digits
pub digits_all : (bs : List ℕ) (i : ℕ) → i < length (take_while is_digit bs) → IsTrue (is_digit (get_or (take_while is_digit bs) i 0))
digits_all bs i lt =
    let k : i < prefix_len is_digit bs = omega (arith, length-prefix_len is_digit bs) in
    let same : get_or (take_while is_digit bs) i 0 ≡ get_or bs i 0 = get_or-take (prefix_len is_digit bs) bs i 0 k in
    rw same (prefix_len_passes is_digit bs i 0 k)

-- a number, digit by digit
pub ruleset digit_by_digit = (number_more, number_past, number_done)
