-- The lattice that the exponents of the relators span, and elements that differ by one of it. Up to moves words with exponents
-- in it commute, and where there is a modulus m their m-th powers are trivial.
use Rattle.std.proofs.Common.{◌≡◌, ℕ, suc, zero, ◌<◌, pos, List, [], ◌++◌, length, refl, sym, ap, subst, ◌∙◌}
use Rattle.std.specs.Prelude.{Contains}
use Rattle.free_words.specs.declared.letter.Letter.{Letter}
use Rattle.free_words.specs.Words.{inverse, copies, exponent_sum}
use Rattle.free_words.proofs.OverLemmas.{IsOver-append, IsOver-inverse}
use Rattle.presentation.specs.Presented.{Presented, IsPresented}
use Rattle.derivation.specs.Moves.{IsWordOver, Reaches, Trivial}
use Rattle.derivation.proofs.Reaching.{reaches_self, reaches_on, reaches_back, reaches_before, reaches_both}
use Rattle.derivation.proofs.TrivialLaws.{trivial_relator, trivial_inverse_relator}
use Rattle.magnus_laws.proofs.Lattices.{Lattice, plus-none, back, forth, minus-minus, minus-none, minus_of_plus}
use Rattle.magnus_laws.proofs.LatticeFox.{exponents, exponents-append, exponents-inverse}
use Rattle.magnus_laws.proofs.CommutatorProducts.{Gathers, gather, Commute, products_commute, copies_reach, power_of_product}
use Rattle.magnus_laws.proofs.Upward.{relator_over}

module _ (L : Lattice) (p : Presented) where
  -- sums of exponents of relators and of their opposites
  pub data InRelatorLattice : L.Z → Type 0 where
    nothing : InRelatorLattice L.none
    more : (r : List Letter) (a : L.Z) → Contains p.relators r → InRelatorLattice a → InRelatorLattice (L.plus (exponents L r) a)
    less : (r : List Letter) (a : L.Z) → Contains p.relators r → InRelatorLattice a → InRelatorLattice (L.plus (L.minus (exponents L r)) a)

  pub lattice_plus : (a b : L.Z) → InRelatorLattice a → InRelatorLattice b → InRelatorLattice (L.plus a b)
  lattice_plus a b (nothing) second = subst InRelatorLattice (sym (L.none-plus b)) second
  lattice_plus a b (more r a' listed first) second =
      subst InRelatorLattice (sym (L.plus_assoc (exponents L r) a' b)) (more r (L.plus a' b) listed (lattice_plus a' b first second))
  lattice_plus a b (less r a' listed first) second =
      subst InRelatorLattice (sym (L.plus_assoc (L.minus (exponents L r)) a' b)) (less r (L.plus a' b) listed (lattice_plus a' b first second))

  pub lattice_relator : (r : List Letter) → Contains p.relators r → InRelatorLattice (exponents L r)
  lattice_relator r listed = subst InRelatorLattice (plus-none L (exponents L r)) (more r L.none listed nothing)

  pub lattice_minus : (a : L.Z) → InRelatorLattice a → InRelatorLattice (L.minus a)
  lattice_minus a (nothing) = subst InRelatorLattice (sym (minus-none L)) nothing
  lattice_minus a (more r a' listed rest) =
      let e : L.Z = exponents L r in
      subst InRelatorLattice (L.plus_comm (L.minus e) (L.minus a') ∙ sym (minus_of_plus L e a')) (less r (L.minus a') listed (lattice_minus a' rest))
  lattice_minus a (less r a' listed rest) =
      let e : L.Z = exponents L r in
      subst InRelatorLattice
      (ap (λ z. L.plus z (L.minus a')) (sym (minus-minus L e)) ∙ L.plus_comm (L.minus (L.minus e)) (L.minus a') ∙ sym (minus_of_plus L (L.minus e) a'))
      (more r (L.minus a') listed (lattice_minus a' rest))

  -- the exponents of products, inverses and powers
  pub lattice_product : (u v : List Letter) → InRelatorLattice (exponents L u) → InRelatorLattice (exponents L v) → InRelatorLattice (exponents L (u ++ v))
  lattice_product u v first second = subst InRelatorLattice (sym (exponents-append L u v)) (lattice_plus (exponents L u) (exponents L v) first second)

  pub lattice_inverse : (u : List Letter) → InRelatorLattice (exponents L u) → InRelatorLattice (exponents L (inverse u))
  lattice_inverse u is = subst InRelatorLattice (sym (exponents-inverse L u)) (lattice_minus (exponents L u) is)

  pub lattice_copies : (k : ℕ) (u : List Letter) → InRelatorLattice (exponents L u) → InRelatorLattice (exponents L (copies k u))
  lattice_copies zero u is = nothing
  lattice_copies (suc k) u is = lattice_product (copies k u) u (lattice_copies k u is) is

  -- ---- elements near each other: a is b and an element of the lattice
  abbrev pub Near : L.Z → L.Z → Type 0
  Near a b = (d : L.Z) × InRelatorLattice d × (a ≡ L.plus d b)

  pub near_itself : (a : L.Z) → Near a a
  near_itself a = (L.none, nothing, sym (L.none-plus a))

  pub near_on : (a b c : L.Z) → Near a b → Near b c → Near a c
  near_on a b c (d, is, e) (d', is', e') = (L.plus d d', lattice_plus d d' is is', e ∙ ap (L.plus d) e' ∙ sym (L.plus_assoc d d' c))

  pub near_back : (a b : L.Z) → Near a b → Near b a
  near_back a b (d, is, e) = (L.minus d, lattice_minus d is, sym (back L d b) ∙ ap (L.plus (L.minus d)) (sym e))

  pub near_plus : (t a b : L.Z) → Near a b → Near (L.plus a t) (L.plus b t)
  near_plus t a b (d, is, e) = (d, is, ap (λ z. L.plus z t) e ∙ L.plus_assoc d b t)

  pub near_relator : (t : L.Z) (r : List Letter) → Contains p.relators r → Near (L.plus t (exponents L r)) t
  near_relator t r listed = (exponents L r, lattice_relator r listed, L.plus_comm t (exponents L r))

  -- ---- words whose exponents lie in the lattice
  module _ (known : IsPresented p) (sums : (w : List Letter) → IsWordOver p w → exponents L w ≡ L.none → (g : ℕ) → exponent_sum g w ≡ pos 0) where
    -- w leads to a word with the exponents 0
    abbrev Levels : List Letter → Type 0
    Levels w = (v : List Letter) × IsWordOver p v × (exponents L v ≡ L.none) × Reaches p w v

    -- a trivial word in front
    in_front : (r w : List Letter) → Trivial p r → Reaches p w (r ++ w)
    in_front r w way = reaches_back p (r ++ w) w (reaches_before p w r [] way)

    level : (a : L.Z) → InRelatorLattice a → (w : List Letter) → IsWordOver p w → exponents L w ≡ a → Levels w
    level a (nothing) w over e = (w, over, e, reaches_self p w)
    level a (more r b listed rest) w over e =
        let x : L.Z = exponents L r in
        let longer : List Letter = inverse r ++ w in
        let lower : Levels longer =
        level b rest longer (IsOver-append (length p.names) (inverse r) w (IsOver-inverse (length p.names) r (relator_over p known r listed)) over)
        (exponents-append L (inverse r) w ∙ (λ i. L.plus (exponents-inverse L r i) (e i)) ∙ back L x b) in
        (lower.0, lower.1, lower.2, reaches_on p w longer lower.0 (in_front (inverse r) w (trivial_inverse_relator p r listed)) lower.3)
    level a (less r b listed rest) w over e =
        let x : L.Z = exponents L r in
        let longer : List Letter = r ++ w in
        let lower : Levels longer = level b rest longer (IsOver-append (length p.names) r w (relator_over p known r listed) over)
        (exponents-append L r w ∙ ap (L.plus x) e ∙ forth L x b) in
        (lower.0, lower.1, lower.2, reaches_on p w longer lower.0 (in_front r w (trivial_relator p r listed)) lower.3)

    gathers : (w : List Letter) → IsWordOver p w → InRelatorLattice (exponents L w) → Gathers p w
    gathers w over is =
        let flat : Levels w = level (exponents L w) is w over refl in
        let product : Gathers p flat.0 = gather p flat.0 flat.1 (sums flat.0 flat.1 flat.2) in
        (product.0, product.1, reaches_on p w flat.0 product.0 flat.3 product.2)

    pub lattice_words_commute : (u v : List Letter) → IsWordOver p u → IsWordOver p v → InRelatorLattice (exponents L u) → InRelatorLattice (exponents L v)
        → Commute p u v
    lattice_words_commute u v ou ov iu iv =
        let a : Gathers p u = gathers u ou iu in
        let b : Gathers p v = gathers v ov iv in
        reaches_on p (u ++ v) (a.0 ++ b.0) (v ++ u) (reaches_both p u a.0 v b.0 a.2 b.2)
        (reaches_on p (a.0 ++ b.0) (b.0 ++ a.0) (v ++ u) (products_commute p a.0 b.0 a.1 b.1)
        (reaches_back p (v ++ u) (b.0 ++ a.0) (reaches_both p v b.0 u a.0 b.2 a.2)))

    pub lattice_word_power : 0 < p.modulus → (u : List Letter) → IsWordOver p u → InRelatorLattice (exponents L u) → Trivial p (copies p.modulus u)
    lattice_word_power some u over is =
        let a : Gathers p u = gathers u over is in
        reaches_on p (copies p.modulus u) (copies p.modulus a.0) [] (copies_reach p p.modulus u a.0 a.2) (power_of_product p some a.0 a.1)
