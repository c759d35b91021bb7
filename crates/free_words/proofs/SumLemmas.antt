-- Exponent sums.
use Rattle.std.proofs.Common.{◌≡◌, ℕ, ◌+◌, ◌<◌, ◌≤◌, ◌==◌, ◌&&◌, not, Bool, true, false, cond, List, [], ◌∷◌, ◌++◌, length, take, get_or, ℤ, pos, negsuc, ◌+ℤ◌}
use Rattle.std.proofs.Common.{◌-ℤ◌, neg_ℤ, ◌≤ℤ◌, if◌then◌else◌, refl, sym, ◌∙◌, ap, arith, FitsSigned, to_z, of_z, w32, length-take, set, get_or-set_same}
use Rattle.std.proofs.Common.{get_or-set_other, ◌≢◌}
use Rattle.std.proofs.lemmas.Bool.Decides.{nat_tests}
use Rattle.std.proofs.lemmas.Int.{ints, to_z-of_z}
use Rattle.std.proofs.lemmas.List.{take_more}
use Rattle.std.proofs.lemmas.List.Sums.{sum_by-append, count_by-le-length}
use Rattle.free_words.specs.declared.letter.Letter.{Letter}
use Rattle.free_words.specs.Words.{IsOver, inverse, flipped, commutator, Cancels, exponent_sum}
use Rattle.free_words.proofs.WordLemmas.{inverse-cons}

-- two numbers that differ
other : (a b : ℕ) → a < b → (a == b) ≡ false
other a b lt = grind (arith, nat_tests)

-- 1 for the generator g, and 1 for its inverse
plain : ℕ → Letter → ℕ
plain g l = cond ((l.g == g) && not l.inv) 1 0

inverted : ℕ → Letter → ℕ
inverted g l = cond ((l.g == g) && l.inv) 1 0

-- the exponent sum of a product
pub exponent_sum-append : (g : ℕ) (u v : List Letter) → exponent_sum g (u ++ v) ≡ exponent_sum g u +ℤ exponent_sum g v
unfolding exponent_sum plain inverted
exponent_sum-append g u v = omega (arith, ints, sum_by-append (plain g) u v, sum_by-append (inverted g) u v)

-- the exponent sum of a letter and its inverse
exponent_sum-flipped : (g : ℕ) (x : Letter) → exponent_sum g (flipped x ∷ []) ≡ neg_ℤ (exponent_sum g (x ∷ []))
unfolding exponent_sum
exponent_sum-flipped g x = by (x.g == g) x.inv
  where
    by : (same b : Bool) → pos (0 + cond (same && not (not b)) 1 0) -ℤ pos (0 + cond (same && not b) 1 0)
        ≡ neg_ℤ (pos (0 + cond (same && not b) 1 0) -ℤ pos (0 + cond (same && b) 1 0))
    by true true = refl
    by true false = refl
    by false true = refl
    by false false = refl

-- the exponent sum of an inverse
pub exponent_sum-inverse : (g : ℕ) (w : List Letter) → exponent_sum g (inverse w) ≡ neg_ℤ (exponent_sum g w)
unfolding exponent_sum
exponent_sum-inverse g [] = refl
exponent_sum-inverse g (x ∷ w) =
    ap (exponent_sum g) (inverse-cons x w)
    ∙ omega (
      arith,
      ints,
      exponent_sum-append g (inverse w) (flipped x ∷ []),
      exponent_sum-append g (x ∷ []) w,
      exponent_sum-flipped g x,
      exponent_sum-inverse g w,
    )

-- leaving out pairs changes no exponent sum
pub exponent_sum-Cancels : (g : ℕ) (w v : List Letter) → Cancels w v → exponent_sum g w ≡ exponent_sum g v
exponent_sum-Cancels g w v (Cancels.none _) = refl
exponent_sum-Cancels g _ _ (Cancels.pair u v w x h) =
    omega (
      arith,
      ints,
      exponent_sum-append g u (x ∷ flipped x ∷ v),
      exponent_sum-append g (x ∷ []) (flipped x ∷ v),
      exponent_sum-append g (flipped x ∷ []) v,
      exponent_sum-flipped g x,
      exponent_sum-append g u v,
      exponent_sum-Cancels g (u ++ v) w h,
    )

-- an exponent sum is at most as large as the word is long
pub exponent_sum-low : (g : ℕ) (w : List Letter) → neg_ℤ (pos (length w)) ≤ℤ exponent_sum g w
unfolding exponent_sum
exponent_sum-low g w = omega (arith, ints, count_by-le-length (λ (l : Letter). (l.g == g) && l.inv) w)

pub exponent_sum-high : (g : ℕ) (w : List Letter) → exponent_sum g w ≤ℤ pos (length w)
unfolding exponent_sum
exponent_sum-high g w = omega (arith, ints, count_by-le-length (λ (l : Letter). (l.g == g) && not l.inv) w)

-- what a letter adds to the exponent sum of g
abbrev pub exponent_at : ℕ → Letter → ℤ
exponent_at g l = if l.g == g then (if l.inv then negsuc 0 else pos 1) else pos 0

exponent_sum-letter : (g : ℕ) (x : Letter) → exponent_sum g (x ∷ []) ≡ exponent_at g x
unfolding exponent_sum
exponent_sum-letter g x = by (x.g == g) x.inv
  where
    by : (same b : Bool) → pos (0 + cond (same && not b) 1 0) -ℤ pos (0 + cond (same && b) 1 0) ≡ (if same then (if b then negsuc 0 else pos 1) else pos 0)
    by true true = refl
    by true false = refl
    by false true = refl
    by false false = refl

-- the exponent sum of a word that begins with a letter
pub exponent_sum-cons : (g : ℕ) (x : Letter) (w : List Letter) → exponent_sum g (x ∷ w) ≡ exponent_at g x +ℤ exponent_sum g w
exponent_sum-cons g x w =
    exponent_sum-append g (x ∷ []) w ∙ ap (λ z. z +ℤ exponent_sum g w) (exponent_sum-letter g x)

-- a generator that the word is not over
pub exponent_sum-outside : (n g : ℕ) (w : List Letter) → IsOver n w → n ≤ g → exponent_sum g w ≡ pos 0
unfolding exponent_sum
exponent_sum-outside n g [] over le = refl
exponent_sum-outside n g (x ∷ w) over le =
    let away : (x.g == g) ≡ false = other x.g g (omega (arith, over.0)) in
    exponent_sum-cons g x w
    ∙ ap (λ (b : Bool). (if b then (if x.inv then negsuc 0 else pos 1) else pos 0) +ℤ exponent_sum g w) away
    ∙ ap (λ z. pos 0 +ℤ z) (exponent_sum-outside n g w over.1 le)

-- the exponent sum of a commutator
pub exponent_sum-commutator : (g : ℕ) (u v : List Letter) → exponent_sum g (commutator u v) ≡ pos 0
exponent_sum-commutator g u v =
    omega (
      arith,
      ints,
      exponent_sum-append g (u ++ v ++ inverse u) (inverse v),
      exponent_sum-append g (u ++ v) (inverse u),
      exponent_sum-append g u v,
      exponent_sum-inverse g u,
      exponent_sum-inverse g v,
    )

-- one more letter
pub exponent_sum-more : (g : ℕ) (w : List Letter) (i : ℕ) (d : Letter) → i < length w
    → exponent_sum g (take (i + 1) w) ≡ exponent_sum g (take i w) +ℤ exponent_at g (get_or w i d)
exponent_sum-more g w i d h =
    ap (exponent_sum g) (take_more w i d h)
    ∙ exponent_sum-append g (take i w) (get_or w i d ∷ [])
    ∙ ap (λ z. exponent_sum g (take i w) +ℤ z) (exponent_sum-letter g (get_or w i d))

-- the exponent sum of a short word is small
small : (g : ℕ) (w : List Letter) (i : ℕ) → length w ≤ 32768 → (neg_ℤ (pos 32768) ≤ℤ exponent_sum g (take i w)) × (exponent_sum g (take i w) ≤ℤ pos 32768)
small g w i short =
    let low = exponent_sum-low g (take i w) in
    let high = exponent_sum-high g (take i w) in
    (omega (arith, ints, length-take {A = Letter}), omega (arith, ints, length-take {A = Letter}))

-- the next exponent sum fits its type
sum_fits : (s e : ℤ) → neg_ℤ (pos 32768) ≤ℤ s → s ≤ℤ pos 32768 → neg_ℤ (pos 1) ≤ℤ e → e ≤ℤ pos 1
    → FitsSigned w32 (to_z w32 (of_z w32 s) +ℤ to_z w32 (of_z w32 e))
sum_fits s e a b c d =
    let f : FitsSigned w32 s = search (arith, ints) in
    let g : FitsSigned w32 e = search (arith, ints) in
    rw (to_z-of_z w32 s f, to_z-of_z w32 e g) (search (arith, ints))

sum_stored : (s e : ℤ) → neg_ℤ (pos 32768) ≤ℤ s → s ≤ℤ pos 32768 → neg_ℤ (pos 1) ≤ℤ e → e ≤ℤ pos 1
    → to_z w32 (of_z w32 (to_z w32 (of_z w32 s) +ℤ to_z w32 (of_z w32 e))) ≡ s +ℤ e
sum_stored s e a b c d = omega (arith, ints)

-- a letter adds 1 or -1
sign_bounds : (b : Bool) → let e : ℤ = if b then negsuc 0 else pos 1 in (neg_ℤ (pos 1) ≤ℤ e) × (e ≤ℤ pos 1)
sign_bounds true = (omega (arith, ints), omega (arith, ints))
sign_bounds false = (omega (arith, ints), omega (arith, ints))

-- the next exponent sum fits its type
pub next_fits : (s e : ℤ) (g : ℕ) (w : List Letter) (i : ℕ) (b : Bool) → length w ≤ 32768 → s ≡ exponent_sum g (take i w)
    → e ≡ (if b then negsuc 0 else pos 1) → FitsSigned w32 (to_z w32 (of_z w32 s) +ℤ to_z w32 (of_z w32 e))
next_fits s e g w i b short sum sign =
    let a = small g w i short in
    let k = sign_bounds b in
    sum_fits s e (rw sum a.0) (rw sum a.1) (rw sign k.0) (rw sign k.1)

-- a number added at a place of a table
placed : (sums : List ℤ) (j g : ℕ) (v s e : ℤ) → j < length sums → get_or sums g (pos 0) ≡ s → v ≡ get_or sums j (pos 0) +ℤ e
    → get_or (set sums j v) g (pos 0) ≡ s +ℤ (if j == g then e else pos 0)
placed sums j g v s e within old new = by (j == g) refl
  where
    by : (same : Bool) → (j == g) ≡ same → get_or (set sums j v) g (pos 0) ≡ s +ℤ (if same then e else pos 0)
    by true test =
        let here : j ≡ g = grind (arith, nat_tests) in
        let at : get_or (set sums j v) j (pos 0) ≡ v = get_or-set_same sums j v (pos 0) within in
        cc
    by false test =
        let away : g ≢ j = grind (arith, nat_tests) in
        let at = get_or-set_other sums j g v (pos 0) away in
        let none : s +ℤ pos 0 ≡ s = omega (arith, ints) in
        cc

-- after one more letter the table has the exponent sums of one more letter
pub next_sums : (sums : List ℤ) (e : ℤ) (w : List Letter) (i : ℕ) (d : Letter) → i < length w → length w ≤ 32768
    → (get_or w i d).g < 24 → length sums ≡ 24
    → ((g : ℕ) → g < 24 → get_or sums g (pos 0) ≡ exponent_sum g (take i w))
    → e ≡ (if (get_or w i d).inv then negsuc 0 else pos 1)
    → (g : ℕ) → g < 24
    → get_or (set sums (get_or w i d).g (to_z w32 (of_z w32 (to_z w32 (of_z w32 (get_or sums (get_or w i d).g (pos 0))) +ℤ to_z w32 (of_z w32 e))))) g (pos 0)
    ≡ exponent_sum g (take (i + 1) w)
next_sums sums e w i d here short known len so_far sign g below =
    let x : Letter = get_or w i d in
    let a = small x.g w i short in
    let k = sign_bounds x.inv in
    let at = so_far x.g known in
    let stored = sum_stored (get_or sums x.g (pos 0)) e (rw at a.0) (rw at a.1) (rw sign k.0) (rw sign k.1) in
    placed sums x.g g _ (exponent_sum g (take i w)) e (rw len known) (so_far g below) stored
    ∙ ap (λ z. exponent_sum g (take i w) +ℤ (if x.g == g then z else pos 0)) sign
    ∙ sym (exponent_sum-more g w i d here)

-- what the laws of exponent sums stand on
pub ruleset sums_of = (exponent_sum-append, exponent_sum-inverse, exponent_sum-commutator, exponent_sum-Cancels)
