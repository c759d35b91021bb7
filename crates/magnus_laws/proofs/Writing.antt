-- The word that writes a tuple: each generator to the power of its entry, in order.
use Rattle.std.proofs.Common.{◌≡◌, ◌≢◌, ℕ, suc, zero, ◌+◌, ◌<◌, ◌≤◌, ◌==◌, Bool, true, false, if◌then◌else◌, ℤ, pos, negsuc, ◌+ℤ◌, List, [], ◌∷◌, ◌++◌, refl}
use Rattle.std.proofs.Common.{ap, ◌∙◌, arith}
use Rattle.std.proofs.lemmas.Bool.Decides.{nat_tests}
use borrow.Author.Differences.{ints}
use Rattle.free_words.specs.declared.letter.Letter.{Letter}
use Rattle.free_words.specs.Words.{IsOver, copies, exponent_sum}
use Rattle.free_words.proofs.OverLemmas.{IsOver-append, IsOver-copies}
use Rattle.free_words.proofs.SumLemmas.{exponent_at, exponent_sum-append, exponent_sum-cons, exponent_sum-outside}
use Rattle.formal_sums.specs.IntegerTuple.{IntegerTuple, entry}
use Rattle.magnus_laws.proofs.LatticeFox.{exponents}
use Rattle.magnus_laws.proofs.Tuples.{tuples, exponents_unique}

abbrev the : ℕ → Bool → Letter
the g b = record { g = g; inv = b }

-- a generator to the power z
abbrev letters : ℤ → ℕ → List Letter
letters (pos k) g = copies k (the g false ∷ [])
letters (negsuc k) g = copies (suc k) (the g true ∷ [])

-- the generators from k on
abbrev write_from : (n k : ℕ) → IntegerTuple n → List Letter
write_from zero k a = []
write_from (suc n) k a = letters a.0 k ++ write_from n (suc k) a.1

pub write : (n : ℕ) → IntegerTuple n → List Letter
write n a = write_from n 0 a

no_letters : (g : ℕ) → exponent_sum g [] ≡ pos 0
no_letters g = exponent_sum-outside 0 g [] tt (omega arith)

letter_sum : (g h : ℕ) (b : Bool) → exponent_sum g (the h b ∷ []) ≡ exponent_at g (the h b)
letter_sum g h b = exponent_sum-cons g (the h b) [] ∙ ap (λ z. exponent_at g (the h b) +ℤ z) (no_letters g) ∙ omega (arith, ints)

sum_of_plain : (g h k : ℕ) → exponent_sum g (copies k (the h false ∷ [])) ≡ (if h == g then pos k else pos 0)
sum_of_plain g h zero = no_letters g ∙ by (h == g)
  where
    by : (t : Bool) → pos 0 ≡ (if t then pos 0 else pos 0)
    by true = refl
    by false = refl
sum_of_plain g h (suc k) =
    exponent_sum-append g (copies k (the h false ∷ [])) (the h false ∷ []) ∙ (λ i. sum_of_plain g h k i +ℤ letter_sum g h false i) ∙ by (h == g)
  where
    by : (t : Bool) → (if t then pos k else pos 0) +ℤ (if t then pos 1 else pos 0) ≡ (if t then pos (suc k) else pos 0)
    by true = omega (arith, ints)
    by false = refl

sum_of_inverted : (g h k : ℕ) → exponent_sum g (copies (suc k) (the h true ∷ [])) ≡ (if h == g then negsuc k else pos 0)
sum_of_inverted g h zero = letter_sum g h true
sum_of_inverted g h (suc k) =
    exponent_sum-append g (copies (suc k) (the h true ∷ [])) (the h true ∷ []) ∙ (λ i. sum_of_inverted g h k i +ℤ letter_sum g h true i) ∙ by (h == g)
  where
    by : (t : Bool) → (if t then negsuc k else pos 0) +ℤ (if t then negsuc 0 else pos 0) ≡ (if t then negsuc (suc k) else pos 0)
    by true = omega (arith, ints)
    by false = refl

sum_of_letters : (g h : ℕ) (z : ℤ) → exponent_sum g (letters z h) ≡ (if h == g then z else pos 0)
sum_of_letters g h (pos k) = sum_of_plain g h k
sum_of_letters g h (negsuc k) = sum_of_inverted g h k

apart : (a b : ℕ) → a ≢ b → (a == b) ≡ false
apart a b h = grind (arith, nat_tests)

alike : (a b : ℕ) → a ≡ b → (a == b) ≡ true
alike a b h = grind (arith, nat_tests)

-- no generator before k
sum_before : (n k g : ℕ) (a : IntegerTuple n) → g < k → exponent_sum g (write_from n k a) ≡ pos 0
sum_before zero k g a below = no_letters g
sum_before (suc n) k g a below =
    let none : exponent_sum g (letters a.0 k) ≡ pos 0 = sum_of_letters g k a.0 ∙ ap (λ (t : Bool). if t then a.0 else pos 0) (apart k g (omega arith)) in
    omega (arith, ints, none, exponent_sum-append g (letters a.0 k) (write_from n (suc k) a.1), sum_before n (suc k) g a.1 (omega (arith, below)))

sum_at : (n k j g : ℕ) (a : IntegerTuple n) → g ≡ k + j → exponent_sum g (write_from n k a) ≡ entry n a j
sum_at zero k j g a e = no_letters g
sum_at (suc n) k zero g a e =
    let here : exponent_sum g (letters a.0 k) ≡ a.0 = sum_of_letters g k a.0 ∙ ap (λ (t : Bool). if t then a.0 else pos 0) (alike k g (omega (arith, e))) in
    omega (arith, ints, here, exponent_sum-append g (letters a.0 k) (write_from n (suc k) a.1), sum_before n (suc k) g a.1 (omega (arith, e)))
sum_at (suc n) k (suc j) g a e =
    let none : exponent_sum g (letters a.0 k) ≡ pos 0 = sum_of_letters g k a.0 ∙ ap (λ (t : Bool). if t then a.0 else pos 0) (apart k g (omega (arith, e))) in
    omega (arith, ints, none, exponent_sum-append g (letters a.0 k) (write_from n (suc k) a.1), sum_at n (suc k) j g a.1 (omega (arith, e)))

over_letters : (n g : ℕ) (z : ℤ) → g < n → IsOver n (letters z g)
over_letters n g (pos k) below = IsOver-copies n k (the g false ∷ []) (below, tt)
over_letters n g (negsuc k) below = IsOver-copies n (suc k) (the g true ∷ []) (below, tt)

over_from : (all n k : ℕ) (a : IntegerTuple n) → k + n ≤ all → IsOver all (write_from n k a)
over_from all zero k a room = tt
over_from all (suc n) k a room =
    IsOver-append all (letters a.0 k) (write_from n (suc k) a.1) (over_letters all k a.0 (omega (arith, room)))
    (over_from all n (suc k) a.1 (omega (arith, room)))

pub write_over : (n : ℕ) (a : IntegerTuple n) → IsOver n (write n a)
unfolding write
write_over n a = over_from n n 0 a (omega arith)

pub write_exponents : (n : ℕ) (a : IntegerTuple n) → exponents (tuples n) (write n a) ≡ a
unfolding write
write_exponents n a = exponents_unique n (write n a) a (write_over n a) (λ g. sum_at n 0 g g a (omega arith))
