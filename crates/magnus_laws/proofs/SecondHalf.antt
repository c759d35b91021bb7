-- Words whose Fox vectors differ by an element of the module are equal (Magnus 1939).
use Rattle.std.proofs.Common.{◌≡◌, ℕ, pos, negsuc, List, [], ◌++◌, refl, subst, append_assoc, append-nil}
use Rattle.free_words.specs.declared.letter.Letter.{Letter}
use Rattle.free_words.specs.Words.{inverse, exponent_sum}
use Rattle.presentation.specs.Presented.{Presented, IsPresented}
use Rattle.derivation.specs.Moves.{IsWordOver, Reaches}
use Rattle.derivation.proofs.Reaching.{reaches_on, reaches_back, reaches_between, reaches_behind, reaches_before}
use Rattle.derivation.proofs.TrivialLaws.{trivial_cancel_back}
use Rattle.formal_sums.specs.FormalSum.{scale}
use Rattle.magnus_laws.proofs.Lattices.{Lattice}
use Rattle.magnus_laws.proofs.LatticeFox.{exponents, fox_in}
use Rattle.magnus_laws.proofs.LatticeModule.{InModule}
use Rattle.magnus_laws.proofs.CommutatorProducts.{reaches_same}
use Rattle.magnus_laws.proofs.RelatorLattice.{Near}
use Rattle.magnus_laws.proofs.Representatives.{representative, representative_joins, representative_near, sum_pairs, sum_near}
use Rattle.magnus_laws.proofs.Boundary.{values_agree, ends_meet}
use Rattle.magnus_laws.proofs.PathWords.{words_additive, edge, value, path, generator_value}

module _ (p : Presented) where
  -- x^-1 (x u y^-1) y leads to u
  around : (x u y : List Letter) → IsWordOver p x → IsWordOver p y → Reaches p (inverse x ++ ((x ++ (u ++ inverse y)) ++ y)) u
  around x u y ox oy =
      let end : List Letter = u ++ (inverse y ++ y) in
      reaches_on p (inverse x ++ ((x ++ (u ++ inverse y)) ++ y)) end u
      (reaches_same p ((inverse x ++ x) ++ end) (inverse x ++ ((x ++ (u ++ inverse y)) ++ y)) end end (simp append_assoc) refl
      (reaches_before p end (inverse x ++ x) [] (trivial_cancel_back p x ox)))
      (subst (Reaches p end) (append-nil u) (reaches_behind p u (inverse y ++ y) [] (trivial_cancel_back p y oy)))

  cancel_around : (x u v y : List Letter) → IsWordOver p x → IsWordOver p y → Reaches p (x ++ (u ++ inverse y)) (x ++ (v ++ inverse y)) → Reaches p u v
  cancel_around x u v y ox oy way =
      reaches_on p u (inverse x ++ ((x ++ (u ++ inverse y)) ++ y)) v (reaches_back p (inverse x ++ ((x ++ (u ++ inverse y)) ++ y)) u (around x u y ox oy))
      (reaches_on p (inverse x ++ ((x ++ (u ++ inverse y)) ++ y)) (inverse x ++ ((x ++ (v ++ inverse y)) ++ y)) v
      (reaches_between p (inverse x) y (x ++ (u ++ inverse y)) (x ++ (v ++ inverse y)) way) (around x v y ox oy))

-- where words write the elements of the lattice
module _ (L : Lattice) (p : Presented) (known : IsPresented p) (sums : (w : List Letter) → IsWordOver p w → exponents L w ≡ L.none → (g : ℕ)
    → exponent_sum g w ≡ pos 0)
    (write : L.Z → List Letter) (write_over : (a : L.Z) → IsWordOver p (write a)) (write_exponents : (a : L.Z) → exponents L (write a) ≡ a) where
  pub congruent_reaches : (p.modulus ≡ 1 → ⊥) → (u v : List Letter) → IsWordOver p u → IsWordOver p v
      → InModule L p (fox_in L u ++ scale (negsuc 0) (fox_in L v))
      → Reaches p u v
  congruent_reaches proper u v ou ov (s, sum, same) =
      let pairs : List (L.Z × L.Z) = sum_pairs L p s sum in
      let r : L.Z → L.Z = representative L pairs in
      let near : (a : L.Z) → Near L p (r a) a = representative_near L p pairs (sum_near L p s sum) in
      let meet : r (exponents L u) ≡ r (exponents L v) = ends_meet L p proper u v (s, sum, same) in
      let agree : Reaches p (value L p known sums write write_over write_exponents r near (fox_in L u))
      (value L p known sums write write_over write_exponents r near (fox_in L v)) =
      values_agree L p (words_additive L p known sums) (edge L p known sums write write_over write_exponents r near) r
      (generator_value L p known sums write write_over write_exponents r near) (fox_in L u) (fox_in L v) s same sum (representative_joins L pairs) in
      let from : (w : List Letter) → IsWordOver p w → Reaches p (value L p known sums write write_over write_exponents r near (fox_in L w))
      (write (r L.none) ++ (w ++ inverse (write (r (exponents L w))))) =
      λ w over. subst (λ z. Reaches p (value L p known sums write write_over write_exponents r near (fox_in L w))
      (write (r L.none) ++ (w ++ inverse (write (r z))))) (L.none-plus (exponents L w))
      (path L p known sums write write_over write_exponents r near L.none w over) in
      let start : List Letter = write (r L.none) in
      let end : List Letter = write (r (exponents L v)) in
      cancel_around p start u v end (write_over (r L.none)) (write_over (r (exponents L v)))
      (reaches_on p (start ++ (u ++ inverse end)) (value L p known sums write write_over write_exponents r near (fox_in L u)) (start ++ (v ++ inverse end))
      (reaches_back p (value L p known sums write write_over write_exponents r near (fox_in L u)) (start ++ (u ++ inverse end))
      (subst (λ z. Reaches p (value L p known sums write write_over write_exponents r near (fox_in L u)) (start ++ (u ++ inverse (write z)))) meet (from u ou)))
      (reaches_on p (value L p known sums write write_over write_exponents r near (fox_in L u))
      (value L p known sums write write_over write_exponents r near (fox_in L v)) (start ++ (v ++ inverse end)) agree (from v ov)))
