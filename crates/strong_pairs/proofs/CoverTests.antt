-- The tests that an entry covers a pair.
use Rattle.std.proofs.Common.{◌≡◌, ℕ, zero, suc, ◌*◌, ◌/◌, ◌%◌, ◌<◌, ◌≤◌, max, Bool, ℤ, pos, negsuc, ◌*ℤ◌, List, [], ◌∷◌, length, slice_index, IsTrue, nat_eq}
use Rattle.std.proofs.Common.{to_z, of_z, FitsSigned, ◌↔◌, refl, sym, ap, ◌∙◌, subst, arith}
use borrow.Author.Differences.{ints}
use lib.Signed.{rem_z}
use mir.Syntax.{w128}
use Rattle.std.proofs.lemmas.Int.{to_z-of_z}
use Rattle.std.specs.Prelude.{◌<ℤ◌}
use Rattle.std.proofs.Math.Nat.{mul-mod_left}
use Rattle.laurent_terms.specs.Monomials.{combined, common_multiple, divides}
use Rattle.laurent_terms.proofs.Combining.{AtMostBelow, divides_is, length-combined}
use Rattle.strong_pairs.specs.Covering.{Divides}

abbrev pub BelowBoth : List ℕ → List ℕ → List ℕ → ℕ → Type 0
BelowBoth u s t n = (k : ℕ) → k < n → slice_index u k ≤ max (slice_index s k) (slice_index t k)

at_combined : (f : ℕ → ℕ → ℕ) (s t : List ℕ) (k : ℕ) → length s ≡ length t → k < length s
    → slice_index (combined f s t) k ≡ f (slice_index s k) (slice_index t k)
at_combined f [] t k e h = absurd (omega (arith, h))
at_combined f (x ∷ s) [] k e h = absurd (omega (arith, e))
at_combined f (x ∷ s) (y ∷ t) zero e h = refl
at_combined f (x ∷ s) (y ∷ t) (suc k) e h = at_combined f s t k (omega (arith, e)) (omega (arith, h))

pub divides_both : (all : Bool) (u s t : List ℕ) (n : ℕ) → IsTrue all ↔ BelowBoth u s t n → length u ≡ n → length s ≡ n → length t ≡ n
    → all ≡ divides u (common_multiple s t)
divides_both all u s t n h a b c = divides_is all u (common_multiple s t) n (forth, back) a (length-combined (λ x y. max x y) s t (b ∙ sym c) ∙ b)
  where
    at : (k : ℕ) → k < n → slice_index (common_multiple s t) k ≡ max (slice_index s k) (slice_index t k)
    at k l = at_combined (λ x y. max x y) s t k (b ∙ sym c) (omega (arith, l, b))

    forth : IsTrue all → AtMostBelow u (common_multiple s t) n
    forth e k l = subst (λ m. slice_index u k ≤ m) (sym (at k l)) (h.0 e k l)

    back : AtMostBelow u (common_multiple s t) n → IsTrue all
    back e = h.1 (λ k l. subst (λ m. slice_index u k ≤ m) (at k l) (e k l))

-- a remainder of 0
pub divides_test : (k l : ℤ) → pos 0 <ℤ k → pos 0 <ℤ l → (rem_z l k ≡ pos 0) ↔ Divides k l
divides_test (pos k) (pos l) h g = (forth, back)
  where
    forth : pos (l % k) ≡ pos 0 → Divides (pos k) (pos l)
    forth e =
        let none : l % k ≡ 0 = cc in
        let some : 0 < k = omega (arith, ints, h) in
        let whole : l ≡ (l / k) * k = omega (arith, none) in
        (pos (l / k), omega (arith, ints, whole))

    factor : (q : ℤ) → pos l ≡ q *ℤ pos k → l % k ≡ 0
    factor (pos q) e = let whole : l ≡ q * k = omega (arith, ints, e) in ap (λ n. n % k) whole ∙ mul-mod_left q k
    factor (negsuc q) e = absurd (omega (arith, ints, e, h, g))

    back : Divides (pos k) (pos l) → pos (l % k) ≡ pos 0
    back (q, e) = ap pos (factor q e)
divides_test (negsuc k) l h g = absurd (omega (arith, ints, h))
divides_test (pos k) (negsuc l) h g = absurd (omega (arith, ints, g))

-- as 128 bits give it
pub divides_word : (k l : ℤ) → FitsSigned w128 k → FitsSigned w128 l → pos 0 <ℤ k → pos 0 <ℤ l
    → IsTrue (nat_eq (of_z w128 (rem_z (to_z w128 (of_z w128 l)) (to_z w128 (of_z w128 k)))) 0) ↔ Divides k l
divides_word k l f e h g = (forth, back)
  where
    same : of_z w128 (rem_z (to_z w128 (of_z w128 l)) (to_z w128 (of_z w128 k))) ≡ of_z w128 (rem_z l k)
    same = λ i. of_z w128 (rem_z (to_z-of_z w128 l e i) (to_z-of_z w128 k f i))

    natural : (k l : ℤ) → pos 0 <ℤ k → pos 0 <ℤ l → (of_z w128 (rem_z l k) ≡ 0) → rem_z l k ≡ pos 0
    natural (pos k) (pos l) h g e = ap pos e
    natural (negsuc k) l h g e = absurd (omega (arith, ints, h))
    natural (pos k) (negsuc l) h g e = absurd (omega (arith, ints, g))

    forth : IsTrue (nat_eq (of_z w128 (rem_z (to_z w128 (of_z w128 l)) (to_z w128 (of_z w128 k)))) 0) → Divides k l
    forth t =
        let none : of_z w128 (rem_z (to_z w128 (of_z w128 l)) (to_z w128 (of_z w128 k))) ≡ 0 = grind arith in
        (divides_test k l h g).0 (natural k l h g (sym same ∙ none))

    back : Divides k l → IsTrue (nat_eq (of_z w128 (rem_z (to_z w128 (of_z w128 l)) (to_z w128 (of_z w128 k)))) 0)
    back d =
        let none : of_z w128 (rem_z (to_z w128 (of_z w128 l)) (to_z w128 (of_z w128 k))) ≡ 0 = same ∙ ap (of_z w128) ((divides_test k l h g).1 d) in
        rw none refl
