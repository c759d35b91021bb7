-- Bytes of written words: names, digits, and what may stand behind them.
use Rattle.std.proofs.Common.{◌≡◌, ℕ, ◌+◌, ◌-◌, ◌*◌, ◌%◌, ◌/◌, ◌<◌, ◌≤◌, ◌^◌, Bool, true, false, List, [], ◌∷◌, ◌++◌, length, drop, take_while, refl, sym, ◌∙◌}
use Rattle.std.proofs.Common.{arith, cond, decimal, length-append}
use Rattle.std.proofs.lemmas.Bool.Decides.{nat_tests}
use Rattle.std.proofs.lemmas.List.Sums.{take_while-cons}
use Rattle.std.proofs.lemmas.Fmt.{decimal_by_steps}
use Rattle.std.proofs.Math.Seq.{drop-append_seam}
use Rattle.std.specs.List.{AllByRecursion}
use Rattle.word_text.specs.Scan.{is_digit, number}

-- each element passes
abbrev pub Passes : (ℕ → Bool) → List ℕ → Type 0
Passes p xs = AllByRecursion (λ b. p b ≡ true) xs

-- the first element, if there is one, does not pass
abbrev pub Stops : (ℕ → Bool) → List ℕ → Type 0
Stops p [] = Unit {0}
Stops p (b ∷ bs) = p b ≡ false

passes_append : (p : ℕ → Bool) (xs ys : List ℕ) → Passes p xs → Passes p ys → Passes p (xs ++ ys)
passes_append p [] ys h k = k
passes_append p (x ∷ xs) ys h k = (h.0, passes_append p xs ys h.1 k)

stopped : (p : ℕ → Bool) (ys : List ℕ) → Stops p ys → take_while p ys ≡ []
stopped p [] s = refl
stopped p (y ∷ ys) s = rw (take_while-cons p y ys, s) refl

-- what passes is taken up to where it stops
pub taken : (p : ℕ → Bool) (xs ys : List ℕ) → Passes p xs → Stops p ys → take_while p (xs ++ ys) ≡ xs
taken p [] ys h s = stopped p ys s
taken p (x ∷ xs) ys h s = rw (take_while-cons p x (xs ++ ys), h.0, taken p xs ys h.1 s) refl

pub left_over : (p : ℕ → Bool) (xs ys : List ℕ) → Passes p xs → Stops p ys → drop (length (take_while p (xs ++ ys))) (xs ++ ys) ≡ ys
left_over p xs ys h s = rw (taken p xs ys h s) (drop-append_seam xs ys)

whole_by : (p : ℕ → Bool) (x : ℕ) (xs : List ℕ) (t : Bool) → p x ≡ t → cond t (x ∷ take_while p xs) [] ≡ x ∷ xs
    → (take_while p xs ≡ xs → Passes p xs) → Passes p (x ∷ xs)
whole_by p x xs true h k again = let same : take_while p xs ≡ xs = cc k in (h, again same)
whole_by p x xs false h k again = cc

-- what is taken whole passes
pub passes_whole : (p : ℕ → Bool) (xs : List ℕ) → take_while p xs ≡ xs → Passes p xs
passes_whole p [] e = tt
passes_whole p (x ∷ xs) e = whole_by p x xs (p x) refl (sym (take_while-cons p x xs) ∙ e) (λ k. passes_whole p xs k)

-- a number's digits
number_append : (n : ℕ) (ds es : List ℕ) → number n (ds ++ es) ≡ number (number n ds) es
number_append n [] es = refl
number_append n (d ∷ ds) es = number_append (n * 10 + (d - 48)) ds es

digit : (n : ℕ) → n < 10 → is_digit (48 + n) ≡ true
unfolding is_digit
digit n lt = grind (arith, nat_tests)

pub record IsNumeral (n : ℕ) (ds : List ℕ) : Type 0 where
  pub some : 0 < length ds
  pub digits : Passes is_digit ds
  pub value : number 0 ds ≡ n

one_digit : (n : ℕ) → n < 10 → IsNumeral n ((48 + n) ∷ [])
one_digit n lt = record { some = omega arith; digits = (digit n lt, tt); value = omega arith }

more_digits : (n : ℕ) (ds : List ℕ) → 10 ≤ n → IsNumeral (n / 10) ds → IsNumeral n (ds ++ ((48 + n % 10) ∷ []))
more_digits n ds le h = record {
  some = omega (arith, h.some, length-append ds ((48 + n % 10) ∷ []));
  digits = passes_append is_digit ds ((48 + n % 10) ∷ []) h.digits (digit (n % 10) (omega arith), tt);
  value = number_append 0 ds ((48 + n % 10) ∷ []) ∙ rw (h.value) (omega arith);
}

pub decimal_is : (n : ℕ) → n < 2 ^ 64 → IsNumeral n (decimal n)
decimal_is n small = decimal_by_steps IsNumeral one_digit more_digits n small
