-- The Fox vector of a word over some generators is over them.
use Rattle.std.proofs.Common.{◌≡◌, ◌⊎◌, inl, inr, ℕ, zero, suc, ◌+◌, ◌*◌, ◌<◌, ◌≤◌, Bool, true, false, if◌then◌else◌, ℤ, pos, negsuc, List, [], ◌∷◌, ◌++◌}
use Rattle.std.proofs.Common.{length, map, get_or, slice_index, nat_lt, refl, sym, ap, subst, ◌∙◌, arith}
use Rattle.std.proofs.Math.ListN.{get_or-eq_default}
use Rattle.std.specs.List.{AllByRecursion}
use Rattle.free_words.specs.declared.letter.Letter.{Letter}
use Rattle.free_words.specs.Words.{IsOver, exponent_sum}
use Rattle.free_words.proofs.OverLemmas.{IsOver-append}
use Rattle.free_words.proofs.SumLemmas.{exponent_sum-outside}
use Rattle.formal_sums.specs.FormalSum.{FormalSum}
use Rattle.formal_sums.proofs.Shortest.{falling_keys}
use Rattle.laurent_terms.specs.Monomials.{monomial_of, positive_part, negative_part}
use Rattle.laurent_terms.proofs.IntegerVectors.{positive_at, negative_at}
use Rattle.module_vec.specs.declared.places.Place.{Place}
use Rattle.module_vec.specs.declared.places.Term.{Term}
use Rattle.module_vec.specs.Vectors.{sum_of}
use Rattle.module_vec.proofs.Order.{test, order}
use Rattle.vector_text.specs.Over.{MonoIsOver, PlaceIsOver, VectorIsOver}
use Rattle.fox_calculus.specs.Fox.{exponent_sums, image, place_of, letter_term, fox_after, fox}
use Rattle.fox_calculus.specs.Generators.{IsWritten}
use Rattle.fox_calculus.proofs.Sums.{sums_length, sums_at}
use Rattle.fox_calculus.proofs.Short.{nonzero}

sum_outside_by : (n : ℕ) (u : List Letter) (g : ℕ) (b : Bool) → nat_lt g 24 ≡ b → IsOver n u → n ≤ g → get_or (exponent_sums u) g (pos 0) ≡ pos 0
sum_outside_by n u g true e over le = let lt : g < 24 = grind arith in sums_at u g (pos 0) lt ∙ exponent_sum-outside n g u over le
sum_outside_by n u g false e over le =
    let ge : 24 ≤ g = grind arith in
    get_or-eq_default (exponent_sums u) (pos 0) (subst (λ (k : ℕ). k ≤ g) (sym (sums_length u)) ge)

sum_outside : (n : ℕ) (u : List Letter) (g : ℕ) → IsOver n u → n ≤ g → get_or (exponent_sums u) g (pos 0) ≡ pos 0
sum_outside n u g over le = sum_outside_by n u g (nat_lt g 24) refl over le

-- a number is even or odd
halves : (v : ℕ) → (g : ℕ) × ((v ≡ 2 * g) ⊎ (v ≡ 2 * g + 1))
halves zero = (0, inl (omega arith))
halves (suc zero) = (0, inr (omega arith))
halves (suc (suc v)) = next (halves v)
  where
    next : (g : ℕ) × ((v ≡ 2 * g) ⊎ (v ≡ 2 * g + 1)) → (g : ℕ) × ((suc (suc v) ≡ 2 * g) ⊎ (suc (suc v) ≡ 2 * g + 1))
    next (g, inl e) = (suc g, inl (omega (arith, e)))
    next (g, inr e) = (suc g, inr (omega (arith, e)))

image_by : (n : ℕ) (u : List Letter) (v : ℕ) → IsOver n u → 2 * n ≤ v → (g : ℕ) × ((v ≡ 2 * g) ⊎ (v ≡ 2 * g + 1)) → slice_index (image u) v ≡ 0
image_by n u v over le (g, inl e) =
    ap (slice_index (image u)) e ∙ (positive_at (exponent_sums u) g ∙ ap positive_part (sum_outside n u g over (omega (arith, le, e))))
image_by n u v over le (g, inr e) =
    ap (slice_index (image u)) e ∙ (negative_at (exponent_sums u) g ∙ ap negative_part (sum_outside n u g over (omega (arith, le, e))))

pub image_over : (n : ℕ) (u : List Letter) → IsOver n u → MonoIsOver n (image u)
image_over n u over v le = image_by n u v over le (halves v)

over_by : (n : ℕ) (a b : ℤ × Place) (c : Bool) → PlaceIsOver n a.1 → PlaceIsOver n b.1 → PlaceIsOver n ((if c then a else b).1)
over_by n a b true h k = h
over_by n a b false h k = k

term_over : (n : ℕ) (u : List Letter) (l : Letter) → IsOver n u → l.g < n → PlaceIsOver n (letter_term u l).1
term_over n u l over lt =
    over_by n (negsuc 0, place_of (u ++ l ∷ []) l.g) (pos 1, place_of u l.g) l.inv
    (record { mono = image_over n (u ++ l ∷ []) (IsOver-append n u (l ∷ []) over (lt, tt)); component = lt })
    (record { mono = image_over n u over; component = lt })

pub fox_over : (n : ℕ) (u w : List Letter) → IsOver n u → IsOver n w → AllByRecursion (λ t. PlaceIsOver n t.1) (fox_after u w)
fox_over n u [] a b = tt
fox_over n u (l ∷ w) a b = (term_over n u l a b.0, fox_over n (u ++ l ∷ []) w (IsOver-append n u (l ∷ []) a (b.0, tt)) b.1)

as_terms : (n : ℕ) (v : List Term) → AllByRecursion (λ t. PlaceIsOver n t.1) (sum_of v) → VectorIsOver n v
as_terms n [] all = tt
as_terms n (t ∷ v) all = (all.0, as_terms n v all.1)

-- so is what is written of it
pub written_over : (n : ℕ) (w : List Letter) (v : List Term) → IsOver n w → IsWritten (fox w) v → VectorIsOver n v
written_over n w v over is =
    as_terms n v (falling_keys test order (PlaceIsOver n) (sum_of v) (fox w) is.sparse.falling (nonzero v is.sparse.terms) is.same (fox_over n [] w tt over))
