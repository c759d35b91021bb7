-- The first place at which something passes, as a loop finds it.
use Rattle.std.proofs.Common.{◌≡◌, ℕ, ◌+◌, ◌<◌, ◌≤◌, Bool, true, false, nat_eq, nat_lt, List, length, get_or, position, Some, None, refl, arith}
use Rattle.std.proofs.lemmas.Bool.Decides.{nat_tests}
use Rattle.std.proofs.lemmas.List.Sums.{position_or_len_is}

-- nothing passes before this place
abbrev pub NoneBefore : {X : Type 0} → (X → Bool) → X → List X → ℕ → Type 0
NoneBefore f d xs j = (k : ℕ) → k < j → f (get_or xs k d) ≡ false

is_below : (i n : ℕ) → i < n → nat_lt i n ≡ true
is_below i n lt = grind (arith, nat_tests)

is_not_below : (n : ℕ) → nat_lt n n ≡ false
is_not_below n = grind (arith, nat_tests)

pub found : {X : Type 0} (f : X → Bool) (d : X) (xs : List X) (j : ℕ) → j < length xs → NoneBefore f d xs j → f (get_or xs j d) ≡ true → position f xs ≡ Some j
found f d xs j lt before here =
    let le : j ≤ length xs = omega arith in
    rw (position_or_len_is f xs j d le before (λ _. here), is_below j (length xs) lt) refl

pub none : {X : Type 0} (f : X → Bool) (d : X) (xs : List X) → NoneBefore f d xs (length xs) → position f xs ≡ None
none f d xs before =
    let le : length xs ≤ length xs = omega arith in
    rw (position_or_len_is f xs (length xs) d le before (λ lt. absurd (omega arith)), is_not_below (length xs)) refl

pub further : {X : Type 0} (f : X → Bool) (d : X) (xs : List X) (j : ℕ) → NoneBefore f d xs j → f (get_or xs j d) ≡ false → NoneBefore f d xs (j + 1)
further f d xs j before here k lt = by (nat_eq k j) refl
  where
    by : (t : Bool) → nat_eq k j ≡ t → f (get_or xs k d) ≡ false
    by true e = let same : k ≡ j = grind (arith, nat_tests) in rw same here
    by false e = let less : k < j = grind (arith, nat_tests) in before k less
