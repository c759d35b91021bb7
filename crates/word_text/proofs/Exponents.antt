-- What stands behind `^`: an exponent, or the first fault.
use Rattle.std.proofs.Common.{◌==◌, ◌≡◌, ◌⊎◌, inl, inr, ℕ, ◌<◌, ◌≤◌, Bool, true, false, List, length, drop, Some, None, Result, Ok, Err, refl, arith, nat_lt}
use Rattle.std.proofs.Common.{if◌then◌else◌}
use Rattle.std.proofs.lemmas.Bool.Decides.{nat_tests}
use Rattle.word_text.specs.declared.fault.Fault.{Fault}
use Rattle.word_text.specs.declared.fault.TextKind.TheVariants.{ExponentTooLarge}
use Rattle.word_text.specs.Scan.{first_is, after_blanks, digits_at, after_digits, number, within, due}
use Rattle.word_text.specs.Powers.{Exponent, written, sized, size_at, exponent_at}
use Rattle.word_text.specs.Grammar.{IsSize, IsExponent}
use Rattle.word_text.proofs.Numbers.{within_some, within_none}

-- no digits stand here, or those of a number that is too large
abbrev pub NoSize : List ℕ → Fault → Type 0
NoSize bs e = ((length (digits_at bs) ≡ 0) × (e ≡ due bs))
    ⊎ ((0 < length (digits_at bs)) × (written < number 0 (digits_at bs)) × (e ≡ record { kind = ExponentTooLarge; left = length bs }))

-- the digits' place behind `^`, with `-` or without
abbrev pub SizePlace : List ℕ → List ℕ → Type 0
SizePlace bs place = ((first_is 45 bs ≡ true) × (place ≡ after_blanks (drop 1 bs))) ⊎ ((first_is 45 bs ≡ false) × (place ≡ bs))

abbrev pub NoExponent : List ℕ → Fault → Type 0
NoExponent bs e = (place : List ℕ) × SizePlace bs place × NoSize place e

-- an exponent, or the fault
pub data ExponentRead (bs : List ℕ) : Result Exponent Fault → Type 0 where
  exponent : (negative : Bool) (n : ℕ) (rest : List ℕ) → IsExponent bs negative n rest
      → ExponentRead bs (Ok (record { negative = negative; size = n; rest = rest }))
  none : (e : Fault) → NoExponent bs e → ExponentRead bs (Err e)

data SizeRead (negative : Bool) (bs : List ℕ) : Result Exponent Fault → Type 0 where
  size : (n : ℕ) (rest : List ℕ) → IsSize bs n rest → SizeRead negative bs (Ok (record { negative = negative; size = n; rest = rest }))
  none : (e : Fault) → NoSize bs e → SizeRead negative bs (Err e)

past : (m n : ℕ) → nat_lt m n ≡ true → m < n
past m n e = grind (arith, nat_tests)

not_past : (m n : ℕ) → nat_lt m n ≡ false → n ≤ m
not_past m n e = grind (arith, nat_tests)

is_zero : (n : ℕ) → (n == 0) ≡ true → n ≡ 0
is_zero n e = grind (arith, nat_tests)

positive : (n : ℕ) → (n == 0) ≡ false → 0 < n
positive n e = grind (arith, nat_tests)

sized_by : (negative : Bool) (bs : List ℕ) (t : Bool) → nat_lt written (number 0 (digits_at bs)) ≡ t → 0 < length (digits_at bs)
    → SizeRead negative bs (sized negative bs (if t then None else Some (number 0 (digits_at bs))))
sized_by negative bs true t some = SizeRead.none _ (inr (some, past written (number 0 (digits_at bs)) t, refl))
sized_by negative bs false t some =
    SizeRead.size (number 0 (digits_at bs)) (after_digits bs) (some, refl, not_past written (number 0 (digits_at bs)) t, refl)

size_by : (negative : Bool) (bs : List ℕ) (t : Bool) → (length (digits_at bs) == 0) ≡ t
    → SizeRead negative bs (if t then Err (due bs) else sized negative bs (within written (number 0 (digits_at bs))))
size_by negative bs true t = SizeRead.none _ (inl (is_zero (length (digits_at bs)) t, refl))
size_by negative bs false t = sized_by negative bs (nat_lt written (number 0 (digits_at bs))) refl (positive (length (digits_at bs)) t)

size_read : (negative : Bool) (bs : List ℕ) → SizeRead negative bs (size_at negative bs)
unfolding size_at
size_read negative bs = size_by negative bs (length (digits_at bs) == 0) refl

with_minus : (bs : List ℕ) (r : Result Exponent Fault) → first_is 45 bs ≡ true → SizeRead true (after_blanks (drop 1 bs)) r → ExponentRead bs r
with_minus bs _ t (SizeRead.size n rest h) = ExponentRead.exponent true n rest (t, h)
with_minus bs _ t (SizeRead.none e h) = ExponentRead.none e (after_blanks (drop 1 bs), inl (t, refl), h)

without_minus : (bs : List ℕ) (r : Result Exponent Fault) → first_is 45 bs ≡ false → SizeRead false bs r → ExponentRead bs r
without_minus bs _ t (SizeRead.size n rest h) = ExponentRead.exponent false n rest (t, h)
without_minus bs _ t (SizeRead.none e h) = ExponentRead.none e (bs, inr (t, refl), h)

by_sign : (bs : List ℕ) (b : Bool) → first_is 45 bs ≡ b → ExponentRead bs (if b then size_at true (after_blanks (drop 1 bs)) else size_at false bs)
by_sign bs true t = with_minus bs (size_at true (after_blanks (drop 1 bs))) t (size_read true (after_blanks (drop 1 bs)))
by_sign bs false t = without_minus bs (size_at false bs) t (size_read false bs)

pub exponent_read : (bs : List ℕ) → ExponentRead bs (exponent_at bs)
unfolding exponent_at
exponent_read bs = by_sign bs (first_is 45 bs) refl

-- an exponent is read
not_zero : (n : ℕ) → 0 < n → (n == 0) ≡ false
not_zero n lt = grind (arith, nat_tests)

size_again : (negative : Bool) (bs : List ℕ) (n : ℕ) (rest : List ℕ) → IsSize bs n rest
    → size_at negative bs ≡ Ok (record { negative = negative; size = n; rest = rest })
unfolding size_at
size_again negative bs n rest h =
    let small : number 0 (digits_at bs) ≤ written = rw (← h.1) (h.2) in
    rw (not_zero (length (digits_at bs)) h.0, within_some written (number 0 (digits_at bs)) small, h.1, h.3) refl

pub exponent_again : (bs : List ℕ) (negative : Bool) (n : ℕ) (rest : List ℕ) → IsExponent bs negative n rest
    → exponent_at bs ≡ Ok (record { negative = negative; size = n; rest = rest })
unfolding exponent_at
exponent_again bs true n rest h = rw (h.0) (size_again true (after_blanks (drop 1 bs)) n rest h.1)
exponent_again bs false n rest h = rw (h.0) (size_again false bs n rest h.1)

-- and where there is none the fault is met
zero_is : (n : ℕ) → n ≡ 0 → (n == 0) ≡ true
zero_is n e = grind (arith, nat_tests)

size_fault : (negative : Bool) (bs : List ℕ) (e : Fault) → NoSize bs e → size_at negative bs ≡ Err e
unfolding size_at
size_fault negative bs e (inl h) = rw (zero_is (length (digits_at bs)) h.0, h.1) refl
size_fault negative bs e (inr h) =
    rw (not_zero (length (digits_at bs)) h.0, within_none written (number 0 (digits_at bs)) h.1, h.2) refl

sized_fault : (bs place : List ℕ) (e : Fault) → SizePlace bs place → NoSize place e → exponent_at bs ≡ Err e
unfolding exponent_at
sized_fault bs place e (inl p) h = rw (p.0, ← p.1) (size_fault true place e h)
sized_fault bs place e (inr p) h = rw (p.0, ← p.1) (size_fault false place e h)

pub exponent_fault : (bs : List ℕ) (e : Fault) → NoExponent bs e → exponent_at bs ≡ Err e
exponent_fault bs e h = sized_fault bs h.0 e h.1 h.2
