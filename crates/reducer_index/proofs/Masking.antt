-- Masks bit by bit.
use Rattle.std.proofs.Common.{◌≡◌, ℕ, zero, suc, ◌+◌, ◌-◌, ◌*◌, ◌%◌, ◌<◌, ◌≤◌, ◌^◌, Bool, true, false, nat_lt, List, [], ◌∷◌, length, slice_index, bit_and}
use Rattle.std.proofs.Common.{bit_or, if◌then◌else◌, ◌⊎◌, inl, inr, refl, sym, ap, subst, ◌∙◌, arith}
use Rattle.std.proofs.lemmas.Bool.Decides.{nat_tests}
use Rattle.std.proofs.lemmas.Nat.Bits.{bit_at_and, bit_at_set_same, bit_at_set_other, bit_at-zero, same_from_bits_below}
use Rattle.std.proofs.lemmas.Nat.{and_le_l}
use Rattle.std.specs.Int.{bit_at}
use Rattle.std.specs.Int.Bits.{or_zero_r}
use mir.Syntax.{w64}
use mir.Val.{bool_byte}
use Rattle.laurent_terms.specs.declared.TheConstants.{VARIABLES}
use Rattle.laurent_terms.specs.Monomials.{divides}
use Rattle.laurent_terms.proofs.Combining.{each_from_divides}
use Rattle.reducer_index.specs.Masks.{flag, bit_of, IsMask, IsMaskUpTo}

-- ---- a mask that is made bit by bit

pub made_none : (s : List ℕ) → IsMaskUpTo 0 s 0
made_none s = record { made = λ bit lt. absurd (omega (arith, lt)); left = λ bit le. bit_at-zero bit }

next_cases : (bit n : ℕ) → bit < n + 1 → (bit < n) ⊎ (bit ≡ n)
next_cases bit n lt = by (nat_lt bit n) refl
  where
    by : (b : Bool) → nat_lt bit n ≡ b → (bit < n) ⊎ (bit ≡ n)
    by true e = inl (grind (arith, nat_tests))
    by false e = let ge : n ≤ bit = grind (arith, nat_tests) in inr (omega (arith, lt, ge))

pub made_clear : (s : List ℕ) (n mask : ℕ) → IsMaskUpTo n s mask → flag s n ≡ false → IsMaskUpTo (n + 1) s mask
made_clear s n mask h off = record {
  made = λ bit lt. by bit (next_cases bit n lt);
  left = λ bit le. h.left bit (omega (arith, le));
}
  where
    by : (bit : ℕ) → (bit < n) ⊎ (bit ≡ n) → bit_at mask bit ≡ bit_of (flag s bit)
    by bit (inl lt) = h.made bit lt
    by bit (inr e) =
        let unset : flag s bit ≡ false = ap (flag s) e ∙ off in
        h.left bit (omega (arith, e)) ∙ sym (ap bit_of unset)

pub made_set : (s : List ℕ) (n mask : ℕ) → n < 64 → IsMaskUpTo n s mask → flag s n ≡ true → IsMaskUpTo (n + 1) s (bit_or mask (1 * 2 ^ n % 2 ^ 64))
made_set s n mask few h on = record {
  made = λ bit lt. by bit (next_cases bit n lt);
  left = λ bit le. bit_at_set_other w64 mask n few bit (λ e. omega (arith, e, le)) ∙ h.left bit (omega (arith, le));
}
  where
    by : (bit : ℕ) → (bit < n) ⊎ (bit ≡ n) → bit_at (bit_or mask (1 * 2 ^ n % 2 ^ 64)) bit ≡ bit_of (flag s bit)
    by bit (inl lt) = bit_at_set_other w64 mask n few bit (λ e. omega (arith, e, lt)) ∙ h.made bit lt
    by bit (inr e) =
        let set : flag s bit ≡ true = ap (flag s) e ∙ on in
        ap (bit_at (bit_or mask (1 * 2 ^ n % 2 ^ 64))) e ∙ bit_at_set_same w64 mask n few ∙ sym (ap bit_of set)

-- one more bit, which is x
pub made_more : (s : List ℕ) (n mask x : ℕ) (b : Bool) → n < 64 → IsMaskUpTo n s mask → flag s n ≡ b → x ≡ bool_byte b
    → IsMaskUpTo (n + 1) s (bit_or mask (x * 2 ^ n % 2 ^ 64))
made_more s n mask x true few h on e = subst (λ (y : ℕ). IsMaskUpTo (n + 1) s (bit_or mask (y * 2 ^ n % 2 ^ 64))) (sym e) (made_set s n mask few h on)
made_more s n mask x false few h off e =
    subst (λ (y : ℕ). IsMaskUpTo (n + 1) s (bit_or mask (y * 2 ^ n % 2 ^ 64))) (sym e)
    (subst (λ (y : ℕ). IsMaskUpTo (n + 1) s (bit_or mask y)) (sym (none (2 ^ n)))
    (subst (IsMaskUpTo (n + 1) s) (sym (or_zero_r mask)) (made_clear s n mask h off)))
  where
    none : (k : ℕ) → bool_byte false * k % 2 ^ 64 ≡ 0
    none k = omega arith

pub flag_low : (s : List ℕ) (bit : ℕ) → bit < VARIABLES → flag s bit ≡ nat_lt 0 (slice_index s bit)
flag_low s bit lt =
    let low : nat_lt bit VARIABLES ≡ true = grind (arith, nat_tests) in
    ap (λ (b : Bool). if b then nat_lt 0 (slice_index s bit) else nat_lt 1 (slice_index s (bit - VARIABLES))) low

pub flag_high : (s : List ℕ) (bit : ℕ) → VARIABLES ≤ bit → flag s bit ≡ nat_lt 1 (slice_index s (bit - VARIABLES))
flag_high s bit le =
    let high : nat_lt bit VARIABLES ≡ false = grind (arith, nat_tests) in
    ap (λ (b : Bool). if b then nat_lt 0 (slice_index s bit) else nat_lt 1 (slice_index s (bit - VARIABLES))) high

-- ---- divisors
read_past : (s : List ℕ) (k : ℕ) → length s ≤ k → slice_index s k ≡ 0
read_past [] k le = refl
read_past (x ∷ s) zero le = absurd (omega (arith, le))
read_past (x ∷ s) (suc k) le = read_past s k (omega (arith, le))

exponent_le : (s t : List ℕ) → divides s t ≡ true → (k : ℕ) → slice_index s k ≤ slice_index t k
exponent_le s t d k = by (nat_lt k (length s)) refl
  where
    by : (b : Bool) → nat_lt k (length s) ≡ b → slice_index s k ≤ slice_index t k
    by true e = each_from_divides s t d k (grind (arith, nat_tests))
    by false e = let past : length s ≤ k = grind (arith, nat_tests) in omega (arith, read_past s k past)

test_le : (least x y : ℕ) → x ≤ y → bit_of (nat_lt least x) ≤ bit_of (nat_lt least y)
test_le least x y le = by (nat_lt least x) (nat_lt least y) refl refl
  where
    by : (a b : Bool) → nat_lt least x ≡ a → nat_lt least y ≡ b → bit_of a ≤ bit_of b
    by false b e f = omega arith
    by true true e f = omega arith
    by true false e f =
        let low : least < x = grind (arith, nat_tests) in
        let high : y ≤ least = grind (arith, nat_tests) in
        absurd (omega (arith, low, high, le))

flag_le : (s t : List ℕ) → divides s t ≡ true → (bit : ℕ) → bit_of (flag s bit) ≤ bit_of (flag t bit)
flag_le s t d bit = by (nat_lt bit VARIABLES)
  where
    by : (b : Bool) → bit_of (if b then nat_lt 0 (slice_index s bit) else nat_lt 1 (slice_index s (bit - VARIABLES)))
        ≤ bit_of (if b then nat_lt 0 (slice_index t bit) else nat_lt 1 (slice_index t (bit - VARIABLES)))
    by true = test_le 0 (slice_index s bit) (slice_index t bit) (exponent_le s t d bit)
    by false = test_le 1 (slice_index s (bit - VARIABLES)) (slice_index t (bit - VARIABLES)) (exponent_le s t d (bit - VARIABLES))

-- the mask of a divisor has no bit that the monomial's hasn't
pub mask_divides : (s t : List ℕ) (a b : ℕ) → IsMask s a → IsMask t b → divides s t ≡ true → bit_and a b ≡ a
mask_divides s t a b h k d =
    same_from_bits_below 64 (bit_and a b) a (omega (arith, and_le_l a b, h.fits)) h.fits
    (λ bit lt. bit_at_and a b bit ∙ omega (arith, h.bits bit lt, k.bits bit lt, flag_le s t d bit))
