-- The order of monomials: total, exact, kept by products, and in step with division.
use Rattle.std.proofs.Common.{◌≡◌, ℕ, zero, suc, ◌+◌, ◌<◌, ◌≤◌, Bool, true, false, nat_lt, ◌==◌, nat_le, ◌&&◌, List, [], ◌∷◌, length, ◌↔◌, ◌⊎◌, inl, inr, refl}
use Rattle.std.proofs.Common.{sym, ap, ◌∙◌, arith, rules}
use Rattle.std.specs.declared.cmp.Ordering.{Ordering}
use Rattle.std.specs.declared.cmp.Ordering.TheVariants.{Less, Equal, Greater}
use Rattle.std.specs.Ordering.{nat_cmp, ordering_then, on, then_cmp}
use Rattle.std.specs.Cmp.{IsTotalOrder}
use Rattle.std.specs.Cmp.Rules.{comparing}
use Rattle.std.specs.Cmp.Lexicographic.{slice_cmp}
use Rattle.std.proofs.lemmas.List.Sums.{sum_by-cons}
use Rattle.std.proofs.lemmas.Map.Lookups.{exact_bytes}
use Rattle.laurent_terms.specs.Monomials.{degree, product, divides, mono_cmp}
use Rattle.laurent_terms.proofs.Combining.{sum-product, first_true, second_true}

by_parts : IsTotalOrder (then_cmp (on degree nat_cmp) (slice_cmp nat_cmp))
by_parts = search (comparing, rules)

pub mono_cmp_total : IsTotalOrder mono_cmp
mono_cmp_total = by_parts

then_equal : (a b : Ordering) → ordering_then a b ≡ Equal → b ≡ Equal
then_equal Less b e = absurd cc
then_equal Equal b e = e
then_equal Greater b e = absurd cc

nat_same : (a : ℕ) → nat_cmp a a ≡ Equal
nat_same a = grind arith

slice_same : (s : List ℕ) → slice_cmp nat_cmp s s ≡ Equal
slice_same [] = refl
slice_same (a ∷ s) = rw (nat_same a) (slice_same s)

pub mono_cmp-same : (s : List ℕ) → mono_cmp s s ≡ Equal
mono_cmp-same s = rw (nat_same (degree s)) (slice_same s)

pub mono_cmp_exact : (s t : List ℕ) → (mono_cmp s t ≡ Equal) ↔ (s ≡ t)
mono_cmp_exact s t = (λ e. exact_bytes s t (then_equal (nat_cmp (degree s) (degree t)) (slice_cmp nat_cmp s t) e), λ e. rw e (mono_cmp-same t))

-- ---- products

nat_shift : (t a b : ℕ) → nat_cmp (t + a) (t + b) ≡ nat_cmp a b
nat_shift t a b = by (nat_lt a b) refl (a == b) refl
  where
    by : (x : Bool) → nat_lt a b ≡ x → (y : Bool) → (a == b) ≡ y → nat_cmp (t + a) (t + b) ≡ nat_cmp a b
    by true h y k = let l : nat_lt (t + a) (t + b) ≡ true = grind arith in rw (l, h) refl
    by false h true k = let l : nat_lt (t + a) (t + b) ≡ false = grind arith in let m : (t + a) == (t + b) ≡ true = grind arith in rw (l, h, m, k) refl
    by false h false k = let l : nat_lt (t + a) (t + b) ≡ false = grind arith in let m : (t + a) == (t + b) ≡ false = grind arith in rw (l, h, m, k) refl

slice_shift : (t a b : List ℕ) → length a ≡ length t → length b ≡ length t → slice_cmp nat_cmp (product t a) (product t b) ≡ slice_cmp nat_cmp a b
slice_shift [] [] [] e f = refl
slice_shift [] (x ∷ a) b e f = absurd (omega (arith, e))
slice_shift [] [] (x ∷ b) e f = absurd (omega (arith, f))
slice_shift (u ∷ t) [] b e f = absurd (omega (arith, e))
slice_shift (u ∷ t) (x ∷ a) [] e f = absurd (omega (arith, f))
slice_shift (u ∷ t) (x ∷ a) (y ∷ b) e f = rw (nat_shift u x y, slice_shift t a b (omega (arith, e)) (omega (arith, f))) refl

pub mono_cmp-product : (t a b : List ℕ) → length a ≡ length t → length b ≡ length t → mono_cmp (product t a) (product t b) ≡ mono_cmp a b
mono_cmp-product t a b e f = rw (sum-product t a (sym e), sum-product t b (sym f), nat_shift (degree t) (degree a) (degree b), slice_shift t a b e f) refl

-- ---- division

pub degree-divisor : (s t : List ℕ) → divides s t ≡ true → degree s ≤ degree t
degree-divisor [] t e = omega arith
degree-divisor (x ∷ s) [] e = absurd cc
degree-divisor (x ∷ s) (y ∷ t) e =
    let test : nat_le x y ≡ true = first_true (nat_le x y) (divides s t) e in
    let le : x ≤ y = grind arith in
    omega (arith, le, degree-divisor s t (second_true (nat_le x y) (divides s t) e), sum_by-cons (λ v. v) x s, sum_by-cons (λ v. v) y t)

-- at one degree the exponents agree as far as the divisor goes
at_one_degree : (s t : List ℕ) → divides s t ≡ true → degree s ≡ degree t → (slice_cmp nat_cmp s t ≡ Less) ⊎ (s ≡ t)
at_one_degree [] [] e d = inr refl
at_one_degree [] (y ∷ t) e d = inl refl
at_one_degree (x ∷ s) [] e d = absurd cc
at_one_degree (x ∷ s) (y ∷ t) e d = by (at_one_degree s t rest (omega (arith, d, le, low, sum_by-cons (λ v. v) x s, sum_by-cons (λ v. v) y t)))
  where
    rest : divides s t ≡ true
    rest = second_true (nat_le x y) (divides s t) e

    le : x ≤ y
    le = let test : nat_le x y ≡ true = first_true (nat_le x y) (divides s t) e in grind arith

    low : degree s ≤ degree t
    low = degree-divisor s t rest

    same : x ≡ y
    same = omega (arith, d, le, low, sum_by-cons (λ v. v) x s, sum_by-cons (λ v. v) y t)

    by : (slice_cmp nat_cmp s t ≡ Less) ⊎ (s ≡ t) → (slice_cmp nat_cmp (x ∷ s) (y ∷ t) ≡ Less) ⊎ (x ∷ s ≡ y ∷ t)
    by (inl l) = inl (rw (same, nat_same y) l)
    by (inr l) = inr (λ i. same i ∷ l i)

pub mono_cmp-divisor : (s t : List ℕ) → divides s t ≡ true → (mono_cmp s t ≡ Less) ⊎ (s ≡ t)
mono_cmp-divisor s t e = by (nat_lt (degree s) (degree t)) refl
  where
    at_degree : degree s ≡ degree t → (slice_cmp nat_cmp s t ≡ Less) ⊎ (s ≡ t) → (mono_cmp s t ≡ Less) ⊎ (s ≡ t)
    at_degree d (inl l) = inl (rw (d, nat_same (degree t)) l)
    at_degree d (inr l) = inr l

    by : (b : Bool) → nat_lt (degree s) (degree t) ≡ b → (mono_cmp s t ≡ Less) ⊎ (s ≡ t)
    by true h = inl (rw h refl)
    by false h =
        let d : degree s ≡ degree t = grind (arith, degree-divisor s t e) in
        at_degree d (at_one_degree s t e d)
