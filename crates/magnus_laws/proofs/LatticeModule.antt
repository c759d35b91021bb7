-- The module of a presentation with exponents in a lattice, and the differences that lie in it.
use Rattle.std.proofs.Common.{◌≡◌, ℕ, ◌<◌, Bool, true, false, cond, ℤ, pos, negsuc, ◌+ℤ◌, ◌*ℤ◌, List, [], ◌∷◌, ◌++◌, length, refl, sym, ap, subst, ◌∙◌, arith}
use Rattle.std.specs.Prelude.{Contains}
use Rattle.std.specs.List.{AllByRecursion}
use Rattle.std.proofs.Math.IntN.{*ℤ_comm}
use borrow.Author.Differences.{ints}
use Rattle.free_words.specs.declared.letter.Letter.{Letter}
use Rattle.presentation.specs.Presented.{Presented}
use Rattle.derivation.specs.Moves.{IsWordOver}
use Rattle.formal_sums.specs.FormalSum.{FormalSum, scale}
use Rattle.formal_sums.specs.Span.{IsSpanned}
use Rattle.formal_sums.proofs.Spans.{scale-one, spanned_same, spanned_nothing, spanned-append, spanned_multiple, spanned-multiple}
use Rattle.magnus_laws.proofs.Lattices.{Lattice, plus-none}
use Rattle.magnus_laws.proofs.LatticeFox.{Point, same_point, shifted, shift, step, exponents, term_by, fox_from, fox_in, at, Alike, point_test, at-append}
use Rattle.magnus_laws.proofs.LatticeFox.{shift-none}

module _ (L : Lattice) where
  -- x^e - 1, in the component c
  abbrev pub binomial : L.Z → ℕ → FormalSum (Point L)
  binomial e c = (pos 1, (e, c)) ∷ (negsuc 0, (L.none, c)) ∷ []

  abbrev pub constant : ℕ → ℕ → FormalSum (Point L)
  constant m c = (pos m, (L.none, c)) ∷ []

module _ (L : Lattice) (p : Presented) where
  -- the generators of the module: over a lattice x_g y_g is 1, so there are no unit binomials
  pub data IsLatticeGenerator : FormalSum (Point L) → Type 0 where
    relator_vector : (r : List Letter) → Contains p.relators r → IsLatticeGenerator (fox_in L r)
    relator_binomial : (r : List Letter) (c : ℕ) → Contains p.relators r → c < length p.names → IsLatticeGenerator (binomial L (exponents L r) c)
    modulus_vector : (c : ℕ) → 0 < p.modulus → c < length p.names → IsLatticeGenerator (constant L p.modulus c)

  abbrev pub Anywhere : L.Z → Type 0
  Anywhere t = Unit {0}

  abbrev pub InModule : FormalSum (Point L) → Type 0
  InModule v = IsSpanned (same_point L) (shifted L) Anywhere IsLatticeGenerator v

  -- ---- what the module is closed under
  pub in_same : (v w : FormalSum (Point L)) → Alike L v w → InModule w → InModule v
  in_same v w e h = spanned_same (same_point L) (shifted L) Anywhere IsLatticeGenerator v w e h

  pub in_nothing : InModule []
  in_nothing = spanned_nothing (same_point L) (shifted L) Anywhere IsLatticeGenerator

  pub in_append : (v w : FormalSum (Point L)) → InModule v → InModule w → InModule (v ++ w)
  in_append v w h k = spanned-append (same_point L) (shifted L) Anywhere IsLatticeGenerator v w h k

  pub in_multiple : (q : ℤ) (t : L.Z) (v : FormalSum (Point L)) → InModule v → InModule (scale q (shift L t v))
  in_multiple q t v h =
      spanned-multiple (same_point L) (shifted L) Anywhere IsLatticeGenerator (point_test L) L.plus (λ s t a b. tt)
      (λ s t k. ap (λ z. (z, k.1)) (sym (L.plus_assoc s t k.0))) q t v tt h

  pub in_generator : (g : FormalSum (Point L)) → IsLatticeGenerator g → InModule g
  in_generator g is =
      subst InModule (scale-one (shift L L.none g) ∙ shift-none L g) (spanned_multiple (same_point L) (shifted L) Anywhere IsLatticeGenerator (pos 1)
      L.none g tt is)

  -- ---- components
  abbrev pub HasComponents : FormalSum (Point L) → Type 0
  HasComponents v = AllByRecursion (λ c. c.1.1 < length p.names) v

  components-term_by : (b : Bool) (a : L.Z) (g : ℕ) → g < length p.names → (term_by L b a g).1.1 < length p.names
  components-term_by true a g h = h
  components-term_by false a g h = h

  pub components-fox_from : (a : L.Z) (w : List Letter) → IsWordOver p w → HasComponents (fox_from L a w)
  components-fox_from a [] over = tt
  components-fox_from a (l ∷ w) over = (components-term_by l.inv a l.g over.0, components-fox_from (L.plus a (step L l)) w over.1)

  -- ---- exponents e for which each x^e - 1 lies in the module
  abbrev pub Passes : L.Z → Type 0
  Passes e = (c : ℕ) → c < length p.names → InModule (binomial L e c)

  gone : (b : Bool) → cond b (pos 1) (pos 0) +ℤ (cond b (negsuc 0) (pos 0) +ℤ pos 0) ≡ pos 0
  gone true = refl
  gone false = refl

  pub passes_none : (e : L.Z) → e ≡ L.none → Passes e
  passes_none e h c below =
      in_same (binomial L e c) [] (λ m. ap (λ z. at L (binomial L z c) m) h ∙ gone (same_point L (L.none, c) m)) in_nothing

  pub passes_relator : (r : List Letter) → Contains p.relators r → Passes (exponents L r)
  passes_relator r listed c below = in_generator (binomial L (exponents L r) c) (relator_binomial r c listed below)

  turned : (b d : Bool)
      → cond b (pos 1) (pos 0) +ℤ (cond d (negsuc 0) (pos 0) +ℤ pos 0) ≡ cond d (negsuc 0 *ℤ pos 1) (pos 0) +ℤ (cond b (negsuc 0 *ℤ negsuc 0) (pos 0) +ℤ pos 0)
  turned true true = refl
  turned true false = refl
  turned false true = refl
  turned false false = refl

  -- x^-e - 1 is -x^-e·(x^e - 1)
  pub passes_minus : (e : L.Z) → Passes e → Passes (L.minus e)
  passes_minus e h c below =
      in_same (binomial L (L.minus e) c) (scale (negsuc 0) (shift L (L.minus e) (binomial L e c)))
      (λ m.
      turned (same_point L (L.minus e, c) m) (same_point L (L.none, c) m)
      ∙ (λ i. cond (same_point L (sym (L.minus-plus e) i, c) m) (negsuc 0 *ℤ pos 1) (pos 0)
      +ℤ (cond (same_point L (sym (plus-none L (L.minus e)) i, c) m) (negsuc 0 *ℤ negsuc 0) (pos 0) +ℤ pos 0)))
      (in_multiple (negsuc 0) (L.minus e) (binomial L e c) (h c below))

  passed : (q : ℤ) (b d : Bool) (x y s t : ℤ) → s ≡ x +ℤ (cond d (negsuc 0 *ℤ q) (pos 0) +ℤ y) → t ≡ x +ℤ y
      → cond b q (pos 0) +ℤ s ≡ cond b (q *ℤ pos 1) (pos 0) +ℤ (cond d (q *ℤ negsuc 0) (pos 0) +ℤ t)
  passed q true true x y s t e f = omega (arith, ints)
  passed q true false x y s t e f = omega (arith, ints)
  passed q false true x y s t e f = omega (arith, ints)
  passed q false false x y s t e f = omega (arith, ints)

  -- x^e·v - v lies in the module
  pub passes_all : (e : L.Z) → Passes e → (v : FormalSum (Point L)) → HasComponents v → InModule (shift L e v ++ scale (negsuc 0) v)
  passes_all e h [] over = in_nothing
  passes_all e h ((q, (a, c)) ∷ v) over =
      let less : FormalSum (Point L) = shift L e v ++ scale (negsuc 0) v in
      let this : FormalSum (Point L) = scale q (shift L a (binomial L e c)) in
      in_same (shift L e ((q, (a, c)) ∷ v) ++ scale (negsuc 0) ((q, (a, c)) ∷ v)) (this ++ less)
      (λ m.
      passed q (same_point L (L.plus e a, c) m) (same_point L (a, c) m) (at L (shift L e v) m) (at L (scale (negsuc 0) v) m)
      (at L (shift L e v ++ ((negsuc 0 *ℤ q, (a, c)) ∷ scale (negsuc 0) v)) m) (at L less m)
      (at-append L (shift L e v) ((negsuc 0 *ℤ q, (a, c)) ∷ scale (negsuc 0) v) m) (at-append L (shift L e v) (scale (negsuc 0) v) m)
      ∙ (λ i. cond (same_point L (L.plus_comm e a i, c) m) (q *ℤ pos 1) (pos 0) +ℤ (cond (same_point L (sym (plus-none L a) i, c) m) (q *ℤ negsuc 0) (pos 0)
      +ℤ at L less m)))
      (in_append this less (in_multiple q a (binomial L e c) (h c over.0)) (passes_all e h v over.1))

  -- where there is a modulus m, m times a vector lies in the module
  pub modulus_times : 0 < p.modulus → (v : FormalSum (Point L)) → HasComponents v → InModule (scale (pos p.modulus) v)
  modulus_times some [] over = in_nothing
  modulus_times some ((q, (a, c)) ∷ v) over =
      in_same (scale (pos p.modulus) ((q, (a, c)) ∷ v)) (scale q (shift L a (constant L p.modulus c)) ++ scale (pos p.modulus) v)
      (λ m i. cond (same_point L (sym (plus-none L a) i, c) m) (*ℤ_comm (pos p.modulus) q i) (pos 0) +ℤ at L (scale (pos p.modulus) v) m)
      (in_append (scale q (shift L a (constant L p.modulus c))) (scale (pos p.modulus) v)
      (in_multiple q a (constant L p.modulus c) (in_generator (constant L p.modulus c) (modulus_vector c some over.0))) (modulus_times some v over.1))
