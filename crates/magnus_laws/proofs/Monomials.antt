-- Tuples of n integers as monomials, and back: a tuple is written with one exponent for each generator's two variables, and a
-- monomial is read as the difference of the two.
use Rattle.std.proofs.Common.{◌≡◌, ℕ, zero, suc, ◌+◌, ◌-◌, ◌*◌, ◌<◌, ◌≤◌, ℤ, pos, negsuc, ◌+ℤ◌, neg_ℤ, List, [], ◌∷◌, ◌++◌, map, replicate, length, slice_set}
use Rattle.std.proofs.Common.{refl, sym, ap, ◌∙◌, arith, append_assoc}
use Rattle.std.specs.List.{range_with_len}
use Rattle.std.proofs.lemmas.List.{length-append, length-replicate, replicate-append-replicate, set-append_right}
use borrow.Author.Differences.{ints}
use Rattle.free_words.specs.declared.letter.Letter.{Letter}
use Rattle.free_words.specs.declared.TheConstants.{GENERATORS}
use Rattle.free_words.specs.Words.{IsOver, exponent_sum}
use Rattle.formal_sums.specs.IntegerTuple.{IntegerTuple, plus, none}
use Rattle.formal_sums.proofs.IntegerTuples.{plus_comm, none-plus}
use Rattle.laurent_terms.specs.declared.TheConstants.{VARIABLES}
use Rattle.laurent_terms.specs.Monomials.{product, one, variable, positive_part, negative_part, both_parts, monomial_of}
use Rattle.laurent_terms.proofs.IntegerVectors.{length-both_parts, both_parts-append, length-monomial_of}
use Rattle.fox_calculus.specs.Fox.{image}
use Rattle.fox_calculus.specs.Generators.{unit_monomial}
use Rattle.magnus_laws.proofs.LatticeFox.{exponents}
use Rattle.magnus_laws.proofs.Tuples.{tuples, entries, length-entries, sums_given}

-- ---- lists of exponents
pub product-append : (s t u v : List ℕ) → length s ≡ length t → product (s ++ u) (t ++ v) ≡ product s t ++ product u v
product-append [] [] u v e = refl
product-append [] (b ∷ t) u v e = absurd (omega (arith, e))
product-append (a ∷ s) [] u v e = absurd (omega (arith, e))
product-append (a ∷ s) (b ∷ t) u v e = ap (λ z. (a + b) ∷ z) (product-append s t u v (omega (arith, e)))

pub product-zeros : (k : ℕ) (s : List ℕ) → length s ≡ k → product s (replicate k 0) ≡ s
product-zeros zero [] e = refl
product-zeros zero (a ∷ s) e = absurd (omega (arith, e))
product-zeros (suc k) [] e = absurd (omega (arith, e))
product-zeros (suc k) (a ∷ s) e = let same : a + 0 ≡ a = omega arith in λ i. same i ∷ product-zeros k s (omega (arith, e)) i

pub zeros-product : (k : ℕ) (s : List ℕ) → length s ≡ k → product (replicate k 0) s ≡ s
zeros-product zero [] e = refl
zeros-product zero (a ∷ s) e = absurd (omega (arith, e))
zeros-product (suc k) [] e = absurd (omega (arith, e))
zeros-product (suc k) (a ∷ s) e = let same : 0 + a ≡ a = omega arith in λ i. same i ∷ zeros-product k s (omega (arith, e)) i

pub length-product : (k : ℕ) (s t : List ℕ) → length s ≡ k → length t ≡ k → length (product s t) ≡ k
length-product k [] t e f = e
length-product k (a ∷ s) [] e f = f
length-product zero (a ∷ s) (b ∷ t) e f = absurd (omega (arith, e))
length-product (suc k) (a ∷ s) (b ∷ t) e f = omega (arith, length-product k s t (omega (arith, e)) (omega (arith, f)))

both_parts-zeros : (k : ℕ) → both_parts (replicate k (pos 0)) ≡ replicate (2 * k) 0
both_parts-zeros zero = refl
both_parts-zeros (suc k) = let more : 2 * suc k ≡ suc (suc (2 * k)) = omega arith
    in ap (λ z. 0 ∷ 0 ∷ z) (both_parts-zeros k) ∙ ap (λ z. replicate z 0) (sym more)

zeros_together : (j k all : ℕ) (s t : List ℕ) → t ≡ s ++ replicate j 0 → j + k ≡ all → t ++ replicate k 0 ≡ s ++ replicate all 0
zeros_together j k all s t e count =
    ap (λ z. z ++ replicate k 0) e
    ∙ append_assoc s (replicate j 0) (replicate k 0)
    ∙ ap (λ z. s ++ z) (replicate-append-replicate j k 0 ∙ ap (λ z. replicate z 0) count)

-- generators with the exponent 0 at the end say nothing
pub monomial_of-zeros : (p : List ℤ) (k : ℕ) → 2 * (length p + k) ≤ VARIABLES → monomial_of (p ++ replicate k (pos 0)) ≡ monomial_of p
monomial_of-zeros p k room =
    let rest : ℕ = VARIABLES - 2 * length (p ++ replicate k (pos 0)) in
    zeros_together (2 * k) rest (VARIABLES - 2 * length p) (both_parts p) (both_parts (p ++ replicate k (pos 0)))
    (both_parts-append p (replicate k (pos 0)) ∙ ap (λ z. both_parts p ++ z) (both_parts-zeros k))
    (omega (arith, length-append p (replicate k (pos 0)), length-replicate k (pos 0)))

-- ---- from tuples to monomials
abbrev pub parts : (n : ℕ) → IntegerTuple n → List ℕ
parts n a = both_parts (entries n a)

abbrev pub written : (n : ℕ) → IntegerTuple n → List ℕ
written n a = monomial_of (entries n a)

pub length-parts : (n : ℕ) (a : IntegerTuple n) → length (parts n a) ≡ 2 * n
length-parts n a = length-both_parts (entries n a) ∙ ap (λ z. 2 * z) (length-entries n a)

pub written-parts : (n : ℕ) (a : IntegerTuple n) → written n a ≡ parts n a ++ replicate (VARIABLES - 2 * n) 0
written-parts n a = ap (λ z. parts n a ++ replicate (VARIABLES - 2 * z) 0) (length-entries n a)

pub length-written : (n : ℕ) (a : IntegerTuple n) → n ≤ GENERATORS → length (written n a) ≡ VARIABLES
length-written n a few = length-monomial_of (entries n a) (omega (arith, length-entries n a, few))

-- [u] is the exponents of u, written
pub image-written : (n : ℕ) (u : List Letter) → n ≤ GENERATORS → IsOver n u → image u ≡ written n (exponents (tuples n) u)
image-written n u few over =
    let r : ℕ = GENERATORS - n in
    let count : GENERATORS ≡ n + r = omega (arith, few) in
    ap (λ k. monomial_of (map (λ g. exponent_sum g u) (range_with_len 0 k))) count
    ∙ ap monomial_of (sums_given n r u over)
    ∙ monomial_of-zeros (entries n (exponents (tuples n) u)) r (omega (arith, length-entries n (exponents (tuples n) u), few))

parts-none : (n : ℕ) → parts n (none n) ≡ replicate (2 * n) 0
parts-none zero = refl
parts-none (suc n) = let more : 2 * suc n ≡ suc (suc (2 * n)) = omega arith in ap (λ z. 0 ∷ 0 ∷ z) (parts-none n) ∙ ap (λ z. replicate z 0) (sym more)

pub written-none : (n : ℕ) → n ≤ GENERATORS → written n (none n) ≡ one
written-none n few =
    let count : 2 * n + (VARIABLES - 2 * n) ≡ VARIABLES = omega (arith, few) in
    written-parts n (none n)
    ∙ ap (λ z. z ++ replicate (VARIABLES - 2 * n) 0) (parts-none n)
    ∙ replicate-append-replicate (2 * n) (VARIABLES - 2 * n) 0
    ∙ ap (λ z. replicate z 0) count

-- ---- from monomials to tuples
unfoldable pub read : (n : ℕ) → List ℕ → IntegerTuple n
read zero s = tt
read (suc n) [] = none (suc n)
read (suc n) (a ∷ []) = (pos a, none n)
read (suc n) (a ∷ b ∷ s) = (pos a +ℤ neg_ℤ (pos b), read n s)

pub read-parts : (n : ℕ) (a : IntegerTuple n) (rest : List ℕ) → read n (parts n a ++ rest) ≡ a
unfolding read
read-parts zero a rest = refl
read-parts (suc n) a rest = λ i. (by a.0 i, read-parts n a.1 rest i)
  where
    by : (z : ℤ) → pos (positive_part z) +ℤ neg_ℤ (pos (negative_part z)) ≡ z
    by (pos k) = omega (arith, ints)
    by (negsuc k) = omega (arith, ints)

pub read-written : (n : ℕ) (a : IntegerTuple n) → read n (written n a) ≡ a
read-written n a = read-parts n a (replicate (VARIABLES - 2 * length (entries n a)) 0)

plus-none : (n : ℕ) (a : IntegerTuple n) → plus n a (none n) ≡ a
plus-none n a = plus_comm n a (none n) ∙ none-plus n a

pub read-product : (n : ℕ) (s t : List ℕ) → length s ≡ length t → read n (product s t) ≡ plus n (read n s) (read n t)
unfolding read
read-product zero s t e = refl
read-product (suc n) [] [] e = sym (plus-none (suc n) (none (suc n)))
read-product (suc n) [] (b ∷ t) e = absurd (omega (arith, e))
read-product (suc n) (a ∷ s) [] e = absurd (omega (arith, e))
read-product (suc n) (a ∷ []) (c ∷ []) e = λ i. (pos (a + c), sym (none-plus n (none n)) i)
read-product (suc n) (a ∷ []) (c ∷ d ∷ t) e = absurd (omega (arith, e))
read-product (suc n) (a ∷ b ∷ s) (c ∷ []) e = absurd (omega (arith, e))
read-product (suc n) (a ∷ b ∷ s) (c ∷ d ∷ t) e = λ i. (by i, read-product n s t (omega (arith, e)) i)
  where
    by : pos (a + c) +ℤ neg_ℤ (pos (b + d)) ≡ (pos a +ℤ neg_ℤ (pos b)) +ℤ (pos c +ℤ neg_ℤ (pos d))
    by = omega (arith, ints)

-- ---- x_g y_g
variable-is : (at m : ℕ) → at + suc m ≡ VARIABLES → variable at ≡ replicate at 0 ++ 1 ∷ replicate m 0
variable-is at m e =
    let here : at - at ≡ 0 = omega arith in
    ap (λ z. slice_set (replicate z 0) at 1) (sym e)
    ∙ ap (λ z. slice_set z at 1) (sym (replicate-append-replicate at (suc m) 0))
    ∙ set-append_right (replicate at 0) (0 ∷ replicate m 0) at at 1 (length-replicate at 0) (omega arith)
    ∙ ap (λ z. replicate at 0 ++ slice_set (0 ∷ replicate m 0) z 1) here

pub unit_monomial-is : (g m : ℕ) → 2 * g + suc (suc m) ≡ VARIABLES → unit_monomial g ≡ replicate (2 * g) 0 ++ 1 ∷ 1 ∷ replicate m 0
unit_monomial-is g m e =
    let zeros : List ℕ = replicate (2 * g) 0 in
    let second : variable (2 * g + 1) ≡ zeros ++ 0 ∷ 1 ∷ replicate m 0 =
    variable-is (2 * g + 1) m (omega (arith, e)) ∙ ap (λ z. z ++ 1 ∷ replicate m 0) (sym (replicate-append-replicate (2 * g) 1 0))
    ∙ append_assoc zeros (0 ∷ []) (1 ∷ replicate m 0) in
    (λ i. product (variable-is (2 * g) (suc m) e i) (second i))
    ∙ product-append zeros zeros (1 ∷ 0 ∷ replicate m 0) (0 ∷ 1 ∷ replicate m 0) refl
    ∙ (λ i. zeros-product (2 * g) zeros (length-replicate (2 * g) 0) i ++ 1 ∷ 1 ∷ zeros-product m (replicate m 0) (length-replicate m 0) i)

pub read-zeros : (n k : ℕ) → read n (replicate k 0) ≡ none n
unfolding read
read-zeros zero k = refl
read-zeros (suc n) zero = refl
read-zeros (suc n) (suc zero) = refl
read-zeros (suc n) (suc (suc k)) = λ i. (pos 0, read-zeros n k i)

read-pair : (n g m : ℕ) → read n (replicate (2 * g) 0 ++ 1 ∷ 1 ∷ replicate m 0) ≡ none n
unfolding read
read-pair zero g m = refl
read-pair (suc n) zero m = λ i. (pos 0, read-zeros n m i)
read-pair (suc n) (suc g) m =
    let more : 2 * suc g ≡ suc (suc (2 * g)) = omega arith in
    ap (λ z. read (suc n) (replicate z 0 ++ 1 ∷ 1 ∷ replicate m 0)) more ∙ λ i. (pos 0, read-pair n g m i)

pub read-unit_monomial : (n g : ℕ) → g < GENERATORS → read n (unit_monomial g) ≡ none n
read-unit_monomial n g below =
    let m : ℕ = VARIABLES - 2 * g - 2 in
    ap (read n) (unit_monomial-is g m (omega (arith, below))) ∙ read-pair n g m
