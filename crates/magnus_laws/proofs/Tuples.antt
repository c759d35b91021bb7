-- Tuples of n integers are a lattice, in which the exponents of a word over n generators are its exponent sums.
use Rattle.std.proofs.Common.{◌≡◌, ℕ, zero, suc, ◌+◌, ◌<◌, ◌≤◌, ◌==◌, Bool, true, false, cond, nat_eq, if◌then◌else◌, ℤ, pos, negsuc, ◌+ℤ◌, neg_ℤ, List, []}
use Rattle.std.proofs.Common.{◌∷◌, ◌++◌, map, replicate, length, refl, sym, ap, ◌∙◌, arith}
use Rattle.std.proofs.lemmas.Bool.Decides.{nat_tests}
use Rattle.std.specs.List.{range_with_len}
use Rattle.free_words.specs.declared.letter.Letter.{Letter}
use Rattle.free_words.specs.Words.{IsOver, exponent_sum}
use Rattle.free_words.proofs.SumLemmas.{exponent_sum-cons, exponent_sum-outside}
use Rattle.formal_sums.specs.IntegerTuple.{IntegerTuple, plus, none, minus, one_at, entry, tuple_eq}
use Rattle.formal_sums.proofs.IntegerTuples.{plus_assoc, plus_comm, none-plus, minus-plus, tuple_test, entry-plus, entry-none, entry-minus, entry-one_at}
use Rattle.formal_sums.proofs.IntegerTuples.{same_entries}
use Rattle.magnus_laws.proofs.Lattices.{Lattice}
use Rattle.magnus_laws.proofs.LatticeFox.{step_by, step, exponents}

abbrev pub tuples : ℕ → Lattice
tuples n = record {
  Z = IntegerTuple n;
  plus = plus n;
  none = none n;
  minus = minus n;
  one_at = one_at n;
  same = tuple_eq n;
  plus_assoc = plus_assoc n;
  plus_comm = plus_comm n;
  none-plus = none-plus n;
  minus-plus = minus-plus n;
  test = tuple_test n;
}

one_test : (a b : ℕ) → nat_eq a b ≡ (a == b)
one_test a b = grind (arith, nat_tests)

entry-step_by : (n : ℕ) (b : Bool) (h g : ℕ) → h < n → entry n (step_by (tuples n) b h) g ≡ (if h == g then (if b then negsuc 0 else pos 1) else pos 0)
entry-step_by n true h g below = entry-minus n (one_at n h) g ∙ ap neg_ℤ (entry-one_at n h g below
    ∙ ap (λ b. cond b (pos 1) (pos 0)) (one_test h g)) ∙ by (h == g)
  where
    by : (t : Bool) → neg_ℤ (cond t (pos 1) (pos 0)) ≡ cond t (negsuc 0) (pos 0)
    by true = refl
    by false = refl
entry-step_by n false h g below = entry-one_at n h g below ∙ ap (λ b. cond b (pos 1) (pos 0)) (one_test h g)

pub entry-exponents : (n : ℕ) (w : List Letter) → IsOver n w → (g : ℕ) → entry n (exponents (tuples n) w) g ≡ exponent_sum g w
entry-exponents n [] over g = entry-none n g ∙ sym (exponent_sum-outside 0 g [] tt (omega arith))
entry-exponents n (l ∷ w) over g =
    entry-plus n (step (tuples n) l) (exponents (tuples n) w) g
    ∙ (λ i. entry-step_by n l.inv l.g g over.0 i +ℤ entry-exponents n w over.1 g i)
    ∙ sym (exponent_sum-cons g l w)

-- words with the exponent 0 have no exponent sums
pub sums_at_none : (n : ℕ) (w : List Letter) → IsOver n w → exponents (tuples n) w ≡ none n → (g : ℕ) → exponent_sum g w ≡ pos 0
sums_at_none n w over e g = sym (entry-exponents n w over g) ∙ ap (λ z. entry n z g) e ∙ entry-none n g

-- the tuple whose entries are the exponent sums
pub exponents_unique : (n : ℕ) (w : List Letter) (a : IntegerTuple n) → IsOver n w → ((g : ℕ) → exponent_sum g w ≡ entry n a g) → exponents (tuples n) w ≡ a
exponents_unique n w a over e = same_entries n (exponents (tuples n) w) a (λ g. entry-exponents n w over g ∙ e g)

-- the entries in order
abbrev pub entries : (n : ℕ) → IntegerTuple n → List ℤ
entries zero a = []
entries (suc n) a = a.0 ∷ entries n a.1

pub length-entries : (n : ℕ) (a : IntegerTuple n) → length (entries n a) ≡ n
length-entries zero a = refl
length-entries (suc n) a = omega (arith, length-entries n a.1)

-- what a function gives from the number j on: the entries of a, and then 0
given_from : (j n r : ℕ) (f : ℕ → ℤ) (a : IntegerTuple n) → ((g : ℕ) → g < n → f (j + g) ≡ entry n a g) → ((g : ℕ) → j + n ≤ g → f g ≡ pos 0)
    → map f (range_with_len j (n + r)) ≡ entries n a ++ replicate r (pos 0)
given_from j zero zero f a within past = refl
given_from j zero (suc r) f a within past =
    let count : 0 + suc r ≡ suc r = omega arith in
    let less : 0 + r ≡ r = omega arith in
    ap (λ k. map f (range_with_len j k)) count
    ∙ (λ i. past j (omega arith) i ∷ (ap (λ k. map f (range_with_len (j + 1) k)) (sym less)
    ∙ given_from (j + 1) zero r f a (λ g below. absurd (omega arith)) (λ g h. past g (omega (arith, h)))) i)
given_from j (suc n) r f a within past =
    let count : suc n + r ≡ suc (n + r) = omega arith in
    let here : j + 0 ≡ j = omega arith in
    ap (λ k. map f (range_with_len j k)) count
    ∙ (λ i. (ap f (sym here) ∙ within 0 (omega arith)) i ∷ given_from (j + 1) n r f a.1 (λ g below. let next : j + 1 + g ≡ j + suc g = omega arith
    in ap f next ∙ within (suc g) (omega (arith, below))) (λ g h. past g (omega (arith, h))) i)

-- the exponent sums of a word over n generators, of n + r in all
pub sums_given : (n r : ℕ) (w : List Letter) → IsOver n w
    → map (λ g. exponent_sum g w) (range_with_len 0 (n + r)) ≡ entries n (exponents (tuples n) w) ++ replicate r (pos 0)
sums_given n r w over =
    given_from 0 n r (λ g. exponent_sum g w) (exponents (tuples n) w)
    (λ g below. let e : 0 + g ≡ g = omega arith in ap (λ k. exponent_sum k w) e ∙ sym (entry-exponents n w over g))
    (λ g h. exponent_sum-outside n g w over (omega (arith, h)))
