-- A written exponent is read.
use Rattle.std.proofs.Common.{◌≡◌, ℕ, zero, suc, ◌<◌, ◌≤◌, ◌==◌, Bool, true, false, if◌then◌else◌, List, [], ◌∷◌, ◌++◌, length, Ok, refl, arith, decimal}
use Rattle.std.proofs.lemmas.Bool.Decides.{nat_tests}
use Rattle.free_words.specs.declared.letter.Letter.{Letter}
use Rattle.free_words.specs.Words.{copies}
use Rattle.free_words.proofs.WordLemmas.{length_copies}
use Rattle.word_text.specs.Scan.{is_blank, is_digit, is_name_byte, after_blanks, first_is, digits_at, after_digits}
use Rattle.word_text.specs.Powers.{written, size_at, exponent_at, powers_from, powers_at, powers_within}
use Rattle.word_text.proofs.Numbers.{within_some}
use Rattle.word_text.proofs.Limits.{made_ok}
use Rattle.presentation.specs.Writing.{written_exponent}
use Rattle.presentation.proofs.WritingBytes.{Passes, Stops, taken, left_over, IsNumeral, decimal_is}
use Rattle.presentation.proofs.WritingEnds.{kept, Apart}

digit_plain : (d : ℕ) → is_digit d ≡ true → (is_blank d ≡ false) × ((d == 45) ≡ false)
unfolding is_digit is_blank
digit_plain d e = (grind (arith, nat_tests), grind (arith, nat_tests))

-- digits stand behind no blank and no sign
pub digits_plain : (ds rest : List ℕ) → 0 < length ds → Passes is_digit ds → (after_blanks (ds ++ rest) ≡ ds ++ rest) × (first_is 45 (ds ++ rest) ≡ false)
digits_plain [] rest some h = absurd (omega arith)
digits_plain (d ∷ ds) rest some h = let p = digit_plain d h.0 in (kept d (ds ++ rest) p.0, p.1)

pub not_zero : (n : ℕ) → 0 < n → (n == 0) ≡ false
not_zero n lt = grind (arith, nat_tests)

-- the digits of a number are read as the number
size_read : (negative : Bool) (ds rest : List ℕ) (n : ℕ) → IsNumeral n ds → n ≤ written → Stops is_digit rest
    → size_at negative (ds ++ rest) ≡ Ok (record { negative = negative; size = n; rest = rest })
unfolding size_at digits_at after_digits
size_read negative ds rest n h le s =
    rw (taken is_digit ds rest h.digits s, not_zero (length ds) h.some, h.value, within_some written n le, left_over is_digit ds rest h.digits s) refl

-- a name's byte is no digit's
stops_digit : (rest : List ℕ) → Stops is_name_byte rest → Stops is_digit rest
unfolding is_name_byte
stops_digit [] s = tt
stops_digit (b ∷ bs) s = grind (arith, nat_tests)

one_is : (n : ℕ) → (n == 1) ≡ true → n ≡ 1
one_is n e = grind (arith, nat_tests)

abbrev pub letter : ℕ → Bool → Letter
letter g inv = record { g = g; inv = inv }

pub no_power : (fuel start : ℕ) (w : List Letter) (bs : List ℕ) → 0 < fuel → first_is 94 bs ≡ false → powers_from written fuel start w bs ≡ Ok (w, bs)
unfolding powers_from
no_power zero start w bs lt e = absurd (omega arith)
no_power (suc fuel) start w bs lt e = rw e refl

short : (n : ℕ) (l : Letter) → n ≤ written → length (copies n (l ∷ [])) ≤ 16384
short n l le = omega (arith, length_copies n (l ∷ []))

positive_read : (fuel start g n : ℕ) (rest : List ℕ) → n ≤ written → Apart rest
    → powers_from written (suc (suc fuel)) start (letter g false ∷ []) (94 ∷ (decimal n ++ rest)) ≡ Ok (copies n (letter g false ∷ []), after_blanks rest)
unfolding powers_from exponent_at
positive_read fuel start g n rest le apart =
    let num = decimal_is n (omega arith) in
    let p = digits_plain (decimal n) rest num.some num.digits in
    rw (
      p.0,
      p.1,
      size_read false (decimal n) rest n num le (stops_digit rest apart.name),
      made_ok written start (copies n (letter g false ∷ [])) (short n (letter g false) le),
      apart.power,
    ) refl

minus : is_blank 45 ≡ false
unfolding is_blank
minus = refl

inverse_read : (fuel start g n : ℕ) (rest : List ℕ) → n ≤ written → Apart rest
    → powers_from written (suc (suc fuel)) start (letter g false ∷ []) (94 ∷ 45 ∷ (decimal n ++ rest)) ≡ Ok (copies n (letter g true ∷ []), after_blanks rest)
unfolding powers_from exponent_at
inverse_read fuel start g n rest le apart =
    let num = decimal_is n (omega arith) in
    let p = digits_plain (decimal n) rest num.some num.digits in
    rw (
      kept 45 (decimal n ++ rest) minus,
      p.0,
      size_read true (decimal n) rest n num le (stops_digit rest apart.name),
      made_ok written start (copies n (letter g true ∷ [])) (short n (letter g true) le),
      apart.power,
    ) refl

-- one letter has no exponent
single_read : (fuel start g : ℕ) (rest : List ℕ) → Apart rest
    → powers_from written (suc fuel) start (letter g false ∷ []) (after_blanks rest) ≡ Ok (copies 1 (letter g false ∷ []), after_blanks rest)
single_read fuel start g rest apart = no_power (suc fuel) start (letter g false ∷ []) (after_blanks rest) (omega arith) apart.power

hat : is_blank 94 ≡ false
unfolding is_blank
hat = refl

one_by : (start g n : ℕ) (rest : List ℕ) (t : Bool) → (n == 1) ≡ t → n ≤ written → Apart rest
    → powers_at start (letter g false ∷ []) ((if t then [] else 94 ∷ decimal n) ++ rest) ≡ Ok (copies n (letter g false ∷ []), after_blanks rest)
unfolding powers_within
one_by start g n rest true e le apart = rw (one_is n e) (single_read (length (after_blanks rest)) start g rest apart)
one_by start g n rest false e le apart = rw (kept 94 (decimal n ++ rest) hat) (positive_read (length (decimal n ++ rest)) start g n rest le apart)

-- the powers behind a name
pub run_read : (start g n : ℕ) (inv : Bool) (rest : List ℕ) → n ≤ written → Apart rest
    → powers_at start (letter g false ∷ []) (written_exponent inv n ++ rest) ≡ Ok (copies n (letter g inv ∷ []), after_blanks rest)
unfolding powers_within
run_read start g n false rest le apart = one_by start g n rest (n == 1) refl le apart
run_read start g n true rest le apart = rw (kept 94 (45 ∷ (decimal n ++ rest)) hat) (inverse_read (length (45 ∷ (decimal n ++ rest))) start g n rest le apart)
