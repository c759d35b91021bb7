-- Representatives: from a finite list of pairs of near elements, a map that takes the two of each pair to one element, and each
-- element to a near one. The pairs come from a sum of multiples of generators, so that membership in the lattice of the relators
-- never has to be decided: equality is enough.
use Rattle.std.proofs.Common.{◌≡◌, Bool, true, false, cond, List, [], ◌∷◌, ◌++◌, refl, sym, ap, subst}
use Rattle.presentation.specs.Presented.{Presented}
use Rattle.formal_sums.specs.FormalSum.{FormalSum}
use Rattle.formal_sums.specs.Span.{SumOfMultiples}
use Rattle.formal_sums.specs.Span.SumOfMultiples.{nothing, more}
use Rattle.magnus_laws.proofs.Lattices.{Lattice, plus-none}
use Rattle.magnus_laws.proofs.LatticeFox.{Point, shifted, exponents}
use Rattle.magnus_laws.proofs.LatticeModule.{IsLatticeGenerator, relator_vector, relator_binomial, modulus_vector, Anywhere}
use Rattle.magnus_laws.proofs.RelatorLattice.{Near, near_itself, near_on, near_back, near_plus, near_relator}

module _ (L : Lattice) where
  -- pair by pair, what stands for the second stands for the first from then on
  abbrev pub representative : List (L.Z × L.Z) → L.Z → L.Z
  representative [] a = a
  representative (e ∷ pairs) a = cond (L.same (representative pairs a) (representative pairs e.1)) (representative pairs e.0) (representative pairs a)

  -- r takes the two of each pair to one element
  abbrev pub Joins : (L.Z → L.Z) → List (L.Z × L.Z) → Type 0
  Joins r [] = Unit {0}
  Joins r (e ∷ pairs) = (r e.0 ≡ r e.1) × Joins r pairs

  joins_later : (e : L.Z × L.Z) (pairs rest : List (L.Z × L.Z)) → Joins (representative pairs) rest → Joins (representative (e ∷ pairs)) rest
  joins_later e pairs [] joins = tt
  joins_later e pairs (d ∷ rest) joins =
      (ap (λ z. cond (L.same z (representative pairs e.1)) (representative pairs e.0) z) joins.0, joins_later e pairs rest joins.1)

  pub representative_joins : (pairs : List (L.Z × L.Z)) → Joins (representative pairs) pairs
  representative_joins [] = tt
  representative_joins (e ∷ pairs) = (
    both (L.same (representative pairs e.0) (representative pairs e.1)) (L.same (representative pairs e.1) (representative pairs e.1))
        (L.test.reflexive (representative pairs e.1)),
    joins_later e pairs pairs (representative_joins pairs),
  )
    where
      both : (b c : Bool) → c ≡ true → cond b (representative pairs e.0) (representative pairs e.0)
          ≡ cond c (representative pairs e.0) (representative pairs e.1)
      both true true h = refl
      both false true h = refl
      both b false h = absurd cc

  pub joins_first : (r : L.Z → L.Z) (pairs rest : List (L.Z × L.Z)) → Joins r (pairs ++ rest) → Joins r pairs
  joins_first r [] rest joins = tt
  joins_first r (e ∷ pairs) rest joins = (joins.0, joins_first r pairs rest joins.1)

  pub joins_rest : (r : L.Z → L.Z) (pairs rest : List (L.Z × L.Z)) → Joins r (pairs ++ rest) → Joins r rest
  joins_rest r [] rest joins = joins
  joins_rest r (e ∷ pairs) rest joins = joins_rest r pairs rest joins.1

  module _ (p : Presented) where
    -- ---- near pairs have near representatives
    abbrev pub AreNear : List (L.Z × L.Z) → Type 0
    AreNear [] = Unit {0}
    AreNear (e ∷ pairs) = Near L p e.0 e.1 × AreNear pairs

    near-append : (pairs rest : List (L.Z × L.Z)) → AreNear pairs → AreNear rest → AreNear (pairs ++ rest)
    near-append [] rest first second = second
    near-append (e ∷ pairs) rest first second = (first.0, near-append pairs rest first.1 second)

    pub representative_near : (pairs : List (L.Z × L.Z)) → AreNear pairs → (a : L.Z) → Near L p (representative pairs a) a
    representative_near [] are a = near_itself L p a
    representative_near (e ∷ pairs) are a =
        by (L.same (representative pairs a) (representative pairs e.1)) refl (representative_near pairs are.1 a) (representative_near pairs are.1 e.0)
        (representative_near pairs are.1 e.1)
      where
        by : (b : Bool) → L.same (representative pairs a) (representative pairs e.1) ≡ b → Near L p (representative pairs a) a
            → Near L p (representative pairs e.0) e.0
            → Near L p (representative pairs e.1) e.1
            → Near L p (cond b (representative pairs e.0) (representative pairs a)) a
        by false test own first second = own
        by true test own first second =
            near_on L p (representative pairs e.0) e.0 a first
            (near_on L p e.0 e.1 a are.0
            (near_on L p e.1 (representative pairs e.1) a (near_back L p (representative pairs e.1) e.1 second)
            (subst (λ z. Near L p z a) (L.test.sound (representative pairs a) (representative pairs e.1) test) own)))

    -- ---- the pairs of a sum of multiples of generators
    unfoldable pub generator_pairs : (t : L.Z) (g : FormalSum (Point L)) → IsLatticeGenerator L p g → List (L.Z × L.Z)
    generator_pairs t _ (relator_vector r listed) = (t, L.plus t (exponents L r)) ∷ []
    generator_pairs t _ (relator_binomial r c listed below) =
        (L.plus t (exponents L r), L.plus t L.none) ∷ (L.plus (L.plus t (exponents L r)) (L.one_at c), L.plus (L.plus t L.none) (L.one_at c)) ∷ []
    generator_pairs t _ (modulus_vector c some below) = []

    generator_near : (t : L.Z) (g : FormalSum (Point L)) (is : IsLatticeGenerator L p g) → AreNear (generator_pairs t g is)
    unfolding generator_pairs
    generator_near t _ (relator_vector r listed) = (near_back L p (L.plus t (exponents L r)) t (near_relator L p t r listed), tt)
    generator_near t _ (relator_binomial r c listed below) =
        let near : Near L p (L.plus t (exponents L r)) (L.plus t L.none) =
        subst (Near L p (L.plus t (exponents L r))) (sym (plus-none L t)) (near_relator L p t r listed) in
        (near, (near_plus L p (L.one_at c) (L.plus t (exponents L r)) (L.plus t L.none) near, tt))
    generator_near t _ (modulus_vector c some below) = tt

    abbrev pub IsSum : FormalSum (Point L) → Type 0
    IsSum v = SumOfMultiples (shifted L) (Anywhere L p) (IsLatticeGenerator L p) v

    unfoldable pub sum_pairs : (v : FormalSum (Point L)) → IsSum v → List (L.Z × L.Z)
    sum_pairs _ (nothing) = []
    sum_pairs _ (more q t g rest moves is sum) = generator_pairs t g is ++ sum_pairs rest sum

    pub sum_near : (v : FormalSum (Point L)) (sum : IsSum v) → AreNear (sum_pairs v sum)
    unfolding sum_pairs
    sum_near _ (nothing) = tt
    sum_near _ (more q t g rest moves is sum) = near-append (generator_pairs t g is) (sum_pairs rest sum) (generator_near t g is) (sum_near rest sum)
