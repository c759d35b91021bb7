-- The fundamental formula of the free differential calculus (Fox 1953), seen through representatives and modulo the modulus: the
-- ends of two words whose Fox vectors differ by an element of the module have one representative.
use Rattle.std.proofs.Common.{◌≡◌, ℕ, suc, zero, ◌*◌, Bool, true, false, cond, ℤ, pos, negsuc, ◌+ℤ◌, ◌*ℤ◌, neg_ℤ, List, [], ◌∷◌, ◌++◌, refl, sym, ap, ◌∙◌}
use Rattle.std.proofs.Common.{arith}
use Rattle.std.proofs.Math.IntN.{+ℤ_assoc, +ℤ_comm, +ℤ_idl, zero-*ℤ}
use borrow.Author.Differences.{ints}
use Rattle.free_words.specs.declared.letter.Letter.{Letter}
use Rattle.presentation.specs.Presented.{Presented}
use Rattle.formal_sums.specs.Evaluation.{Addition, IsAdditive, evaluate, integer_addition}
use Rattle.formal_sums.specs.FormalSum.{FormalSum, Same, scale}
use Rattle.formal_sums.specs.Span.SumOfMultiples.{nothing, more}
use Rattle.formal_sums.proofs.Evaluation.{evaluate-append, evaluate-same, evaluate-scale_unit}
use Rattle.formal_sums.proofs.Integers.{*ℤ-+ℤ, +ℤ-*ℤ}
use Rattle.magnus_laws.proofs.Lattices.{Lattice, plus-none, less_and_more}
use Rattle.magnus_laws.proofs.LatticeFox.{Point, same_point, shift, step_by, step, exponents, term_by, fox_from, fox_in, point_test, at-append, at-scale}
use Rattle.magnus_laws.proofs.LatticeFox.{fox_from-at}
use Rattle.magnus_laws.proofs.LatticeModule.{IsLatticeGenerator, relator_vector, relator_binomial, modulus_vector, binomial, InModule}
use Rattle.magnus_laws.proofs.Representatives.{representative, Joins, representative_joins, joins_first, joins_rest, generator_pairs, IsSum, sum_pairs}

-- ---- additive maps that vanish on the multiples of generators
module _ (L : Lattice) (p : Presented) {C : Type 0} {addition : Addition C} {Alike : C → C → Type 0} (laws : IsAdditive addition Alike) (f : Point L
    → C) (r : L.Z → L.Z)
    (vanishes : (t : L.Z) (g : FormalSum (Point L)) (is : IsLatticeGenerator L p g) → Joins L r (generator_pairs L p t g is)
    → Alike (evaluate addition f (shift L t g)) addition.unit) where
  sum_vanishes : (s : FormalSum (Point L)) (sum : IsSum L p s) → Joins L r (sum_pairs L p s sum) → Alike (evaluate addition f s) addition.unit
  unfolding sum_pairs
  sum_vanishes _ (nothing) joins = laws.reflexive _
  sum_vanishes _ (more q t g rest moves is sum) joins =
      laws.transitive _ _ _ (evaluate-append laws f (scale q (shift L t g)) rest)
      (laws.transitive _ _ _
      (laws.plus_congruent _ _ _ _
      (evaluate-scale_unit (point_test L) laws f q (shift L t g) (vanishes t g is
      (joins_first L r (generator_pairs L p t g is) (sum_pairs L p rest sum) joins)))
      (sum_vanishes rest sum (joins_rest L r (generator_pairs L p t g is) (sum_pairs L p rest sum) joins)))
      (laws.unit-plus _))

  -- vectors that differ by such a sum have the same value
  pub values_agree : (v w s : FormalSum (Point L)) → Same (same_point L) (v ++ scale (negsuc 0) w) s → (sum : IsSum L p s) → Joins L r (sum_pairs L p s sum)
      → Alike (evaluate addition f v) (evaluate addition f w)
  values_agree v w s same sum joins =
      laws.transitive _ _ _
      (evaluate-same (point_test L) laws f v (s ++ w) (λ m. omega (
        arith,
        ints,
        same m,
        at-append L v (scale (negsuc 0) w) m,
        at-scale L (negsuc 0) w m,
        at-append L s w m,
      )))
      (laws.transitive _ _ _ (evaluate-append laws f s w)
      (laws.transitive _ _ _ (laws.plus_congruent _ _ _ _ (sum_vanishes s sum joins) (laws.reflexive _)) (laws.unit-plus _)))

-- ---- integers modulo m; for 0 the integers
abbrev pub Modulo : ℕ → ℤ → ℤ → Type 0
Modulo m a b = (q : ℤ) × (a ≡ b +ℤ pos m *ℤ q)

modulo_same : (m : ℕ) (a b : ℤ) → a ≡ b → Modulo m a b
modulo_same m a b e = (pos 0, e ∙ omega (arith, ints))

modulo_back : (m : ℕ) (a b : ℤ) → Modulo m a b → Modulo m b a
modulo_back m a b (q, e) = (neg_ℤ q, solve (pos m *ℤ q) (pos m *ℤ neg_ℤ q) (sym (*ℤ-+ℤ (pos m) q (neg_ℤ q)) ∙ gone) e)
  where
    gone : pos m *ℤ (q +ℤ neg_ℤ q) ≡ pos 0
    gone = let none : q +ℤ neg_ℤ q ≡ pos 0 = omega (arith, ints) in ap (λ z. pos m *ℤ z) none ∙ omega (arith, ints)

    solve : (x y : ℤ) → x +ℤ y ≡ pos 0 → a ≡ b +ℤ x → b ≡ a +ℤ y
    solve x y h k = omega (arith, ints)

modulo_on : (m : ℕ) (a b c : ℤ) → Modulo m a b → Modulo m b c → Modulo m a c
modulo_on m a b c (q, e) (s, f) = (s +ℤ q, solve (pos m *ℤ q) (pos m *ℤ s) (pos m *ℤ (s +ℤ q)) (*ℤ-+ℤ (pos m) s q) e f)
  where
    solve : (x y z : ℤ) → z ≡ y +ℤ x → a ≡ b +ℤ x → b ≡ c +ℤ y → a ≡ c +ℤ z
    solve x y z h k l = omega (arith, ints)

modulo_plus : (m : ℕ) (a b c d : ℤ) → Modulo m a b → Modulo m c d → Modulo m (a +ℤ c) (b +ℤ d)
modulo_plus m a b c d (q, e) (s, f) = (q +ℤ s, solve (pos m *ℤ q) (pos m *ℤ s) (pos m *ℤ (q +ℤ s)) (*ℤ-+ℤ (pos m) q s) e f)
  where
    solve : (x y z : ℤ) → z ≡ x +ℤ y → a ≡ b +ℤ x → c ≡ d +ℤ y → a +ℤ c ≡ (b +ℤ d) +ℤ z
    solve x y z h k l = omega (arith, ints)

modulo_additive : (m : ℕ) → IsAdditive integer_addition (Modulo m)
modulo_additive m = record {
  reflexive = λ a. modulo_same m a a refl;
  symmetric = modulo_back m;
  transitive = modulo_on m;
  plus_congruent = modulo_plus m;
  plus_assoc = λ a b c. modulo_same m _ _ (+ℤ_assoc a b c);
  plus_comm = λ a b. modulo_same m _ _ (+ℤ_comm a b);
  unit-plus = λ a. modulo_same m _ _ (+ℤ_idl a);
  zero-times = λ a. modulo_same m _ _ (zero-*ℤ a);
  add-times = λ q s a. modulo_same m _ _ (+ℤ-*ℤ q s a);
}

one_product : (m k : ℕ) → m * suc k ≡ 1 → m ≡ 1
one_product zero k e = absurd (omega (arith, e))
one_product (suc zero) k e = refl
one_product (suc (suc m)) k e = absurd (omega (arith, e))

-- 0 and 1 are the same modulo 1 alone
divides_one : (m : ℕ) (q : ℤ) → pos 0 ≡ pos 1 +ℤ pos m *ℤ q → m ≡ 1
divides_one m (pos k) e = absurd (omega (arith, ints, e))
divides_one m (negsuc k) e = one_product m k (omega (arith, ints, e))

-- ---- the formula
module _ (L : Lattice) (r : L.Z → L.Z) (z : L.Z) where
  -- 1 where a is represented by z
  abbrev pub indicator : L.Z → ℤ
  indicator a = cond (L.same (r a) z) (pos 1) (pos 0)

  -- the indicator at the end of the edge at m, less that at its beginning
  abbrev pub bump : Point L → ℤ
  bump m = indicator (L.plus m.0 (L.one_at m.1)) +ℤ neg_ℤ (indicator m.0)

  boundary_by : (b : Bool) (a : L.Z) (g : ℕ) → (term_by L b a g).0 *ℤ bump (term_by L b a g).1 ≡ indicator (L.plus a (step_by L b g)) +ℤ neg_ℤ (indicator a)
  boundary_by true a g =
      let e : indicator (L.plus (L.plus a (L.minus (L.one_at g))) (L.one_at g)) ≡ indicator a = ap indicator (less_and_more L a (L.one_at g)) in
      omega (arith, ints, e)
  boundary_by false a g = omega (arith, ints)

  boundary : (a : L.Z) (u : List Letter) → evaluate integer_addition bump (fox_from L a u) ≡ indicator (L.plus a (exponents L u)) +ℤ neg_ℤ (indicator a)
  boundary a [] = let e : indicator (L.plus a L.none) ≡ indicator a = ap indicator (plus-none L a) in omega (arith, ints, e)
  boundary a (l ∷ u) =
      let b : L.Z = L.plus a (step L l) in
      let e : indicator (L.plus b (exponents L u)) ≡ indicator (L.plus a (L.plus (step L l) (exponents L u))) =
      ap indicator (L.plus_assoc a (step L l) (exponents L u)) in
      omega (arith, ints, e, boundary_by l.inv a l.g, boundary b u)

  module _ (p : Presented) where
    generator_boundary : (t : L.Z) (g : FormalSum (Point L)) (is : IsLatticeGenerator L p g) → Joins L r (generator_pairs L p t g is)
        → Modulo p.modulus (evaluate integer_addition bump (shift L t g)) (pos 0)
    unfolding generator_pairs
    generator_boundary t _ (relator_vector w listed) joins =
        let e : indicator t ≡ indicator (L.plus t (exponents L w)) = ap (λ y. cond (L.same y z) (pos 1) (pos 0)) joins.0 in
        modulo_same p.modulus (evaluate integer_addition bump (shift L t (fox_in L w))) (pos 0)
        (ap (evaluate integer_addition bump) (sym (fox_from-at L t w)) ∙ boundary t w ∙ omega (arith, ints, e))
    generator_boundary t _ (relator_binomial w c listed below) joins =
        let e : indicator (L.plus t (exponents L w)) ≡ indicator (L.plus t L.none) = ap (λ y. cond (L.same y z) (pos 1) (pos 0)) joins.0 in
        let f : indicator (L.plus (L.plus t (exponents L w)) (L.one_at c)) ≡ indicator (L.plus (L.plus t L.none) (L.one_at c)) =
        ap (λ y. cond (L.same y z) (pos 1) (pos 0)) joins.1.0 in
        modulo_same p.modulus (evaluate integer_addition bump (shift L t (binomial L (exponents L w) c))) (pos 0) (omega (arith, ints, e, f))
    generator_boundary t _ (modulus_vector c some below) joins = (bump (L.plus t L.none, c), swap (pos p.modulus *ℤ bump (L.plus t L.none, c)))
      where
        swap : (y : ℤ) → y +ℤ pos 0 ≡ pos 0 +ℤ y
        swap y = omega (arith, ints)

-- the representatives that come with a difference of the module
abbrev pub represented : (L : Lattice) (p : Presented) (v : FormalSum (Point L)) → InModule L p v → L.Z → L.Z
represented L p v is = representative L (sum_pairs L p is.0 is.1)

-- what the values at the ends say of the indicators
ends : (m : ℕ) (q x y start at_end at_other : ℤ) → x ≡ y +ℤ pos m *ℤ q → x ≡ at_end +ℤ neg_ℤ start → y ≡ at_other +ℤ neg_ℤ start → at_end ≡ pos 0
    → at_other ≡ pos 1
    → pos 0 ≡ pos 1 +ℤ pos m *ℤ q
ends m q x y start at_end at_other e f g h k = solve (pos m *ℤ q) e
  where
    solve : (z : ℤ) → x ≡ y +ℤ z → pos 0 ≡ pos 1 +ℤ z
    solve z d = omega (arith, ints, d, f, g, h, k)

pub ends_meet : (L : Lattice) (p : Presented) → (p.modulus ≡ 1 → ⊥) → (u v : List Letter) (is : InModule L p (fox_in L u ++ scale (negsuc 0) (fox_in L v)))
    → represented L p (fox_in L u ++ scale (negsuc 0) (fox_in L v)) is (exponents L u)
    ≡ represented L p (fox_in L u ++ scale (negsuc 0) (fox_in L v)) is (exponents L v)
ends_meet L p proper u v (s, sum, same) = decide (L.same (r (exponents L u)) z) refl
  where
    r : L.Z → L.Z
    r = representative L (sum_pairs L p s sum)

    z : L.Z
    z = r (exponents L v)

    value : FormalSum (Point L) → ℤ
    value w = evaluate integer_addition (bump L r z) w

    agree : Modulo p.modulus (value (fox_in L u)) (value (fox_in L v))
    agree = values_agree L p (modulo_additive p.modulus) (bump L r z) r (generator_boundary L r z p) (fox_in L u) (fox_in L v) s same sum
        (representative_joins L (sum_pairs L p s sum))

    at_end : (w : List Letter) → value (fox_in L w) ≡ indicator L r z (exponents L w) +ℤ neg_ℤ (indicator L r z L.none)
    at_end w = boundary L r z L.none w ∙ ap (λ a. indicator L r z a +ℤ neg_ℤ (indicator L r z L.none)) (L.none-plus (exponents L w))

    decide : (b : Bool) → L.same (r (exponents L u)) z ≡ b → r (exponents L u) ≡ z
    decide true test = L.test.sound (r (exponents L u)) z test
    decide false test =
        absurd (proper (divides_one p.modulus agree.0
        (ends p.modulus agree.0 (value (fox_in L u)) (value (fox_in L v)) (indicator L r z L.none) (indicator L r z (exponents L u))
        (indicator L r z (exponents L v)) agree.1 (at_end u) (at_end v)
        (ap (λ b. cond b (pos 1) (pos 0)) test) (ap (λ b. cond b (pos 1) (pos 0)) (L.test.reflexive z)))))
