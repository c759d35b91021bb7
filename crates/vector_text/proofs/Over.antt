-- Monomials and vectors that stay over the generators.
use Rattle.std.proofs.Common.{◌≡◌, ◌≢◌, ℕ, zero, suc, ◌+◌, ◌-◌, ◌*◌, ◌<◌, ◌≤◌, Bool, true, false, ℤ, pos, ◌+ℤ◌, if◌then◌else◌, List, [], ◌∷◌, ◌++◌, length}
use Rattle.std.proofs.Common.{get_or, slice_index_or, replicate, max, refl, sym, ap, subst, ◌∙◌, arith}
use Rattle.std.proofs.Math.IntN.{+ℤ_idl}
use Rattle.std.proofs.lemmas.List.{get_or-set_other}
use Rattle.std.specs.List.{AllByRecursion}
use Rattle.formal_sums.specs.FormalSum.{FormalSum, coefficient, Same}
use Rattle.formal_sums.proofs.Falling.{coefficient-first}
use Rattle.laurent_terms.specs.Monomials.{one, variable, combined, product, quotient, common_multiple, positive_part, negative_part, both_parts, monomial_of}
use Rattle.module_vec.specs.declared.places.Place.{Place}
use Rattle.module_vec.specs.declared.places.Term.{Term}
use Rattle.module_vec.specs.Places.{same_place}
use Rattle.module_vec.specs.Vectors.{Coefficients, sum_of, coefficient_at, IsTerm, IsSparse}
use Rattle.module_vec.specs.Results.{Has}
use Rattle.module_vec.proofs.Order.{test, order}
use Rattle.module_vec.proofs.FallingTerms.{Falls, at_above}
use Rattle.vector_text.specs.Over.{MonoIsOver, PlaceIsOver, VectorIsOver}
use Rattle.vector_text.proofs.MonomialTexts.{zero_in, zero_at}

-- ---- monomials

pub one_over : (n : ℕ) → MonoIsOver n one
one_over n = λ k le. zero_at k

pub variable_over : (n at : ℕ) → at < 2 * n → MonoIsOver n (variable at)
variable_over n at lt = λ k le. let ne : k ≢ at = λ e. omega (arith, e, le, lt) in get_or-set_other one at k 1 0 ne ∙ zero_at k

combined_at : (f : ℕ → ℕ → ℕ) → f 0 0 ≡ 0 → (s t : List ℕ) (k : ℕ) → get_or s k 0 ≡ 0 → get_or t k 0 ≡ 0 → get_or (combined f s t) k 0 ≡ 0
combined_at f z [] t k h g = refl
combined_at f z (a ∷ s) [] k h g = refl
combined_at f z (a ∷ s) (b ∷ t) zero h g = rw (h, g) z
combined_at f z (a ∷ s) (b ∷ t) (suc k) h g = combined_at f z s t k h g

pub product_over : (n : ℕ) (s t : List ℕ) → MonoIsOver n s → MonoIsOver n t → MonoIsOver n (product s t)
product_over n s t h g = λ k le. combined_at (λ a b. a + b) refl s t k (h k le) (g k le)

pub quotient_over : (n : ℕ) (s t : List ℕ) → MonoIsOver n s → MonoIsOver n t → MonoIsOver n (quotient s t)
quotient_over n s t h g = λ k le. combined_at (λ a b. a - b) refl s t k (h k le) (g k le)

pub common_multiple_over : (n : ℕ) (s t : List ℕ) → MonoIsOver n s → MonoIsOver n t → MonoIsOver n (common_multiple s t)
common_multiple_over n s t h g = λ k le. combined_at (λ a b. max a b) refl s t k (h k le) (g k le)

parts_at : (n m : ℕ) (p : List ℤ) (k : ℕ) → ((g : ℕ) → n ≤ g → slice_index_or p g (pos 0) ≡ pos 0) → 2 * n ≤ k → get_or (both_parts p ++ replicate m 0) k 0 ≡ 0
parts_at n m [] k h le = zero_in m k
parts_at n m (z ∷ p) zero h le = let here : z ≡ pos 0 = h 0 (omega (arith, le)) in ap positive_part here
parts_at n m (z ∷ p) (suc zero) h le = let here : z ≡ pos 0 = h 0 (omega (arith, le)) in ap negative_part here
parts_at n m (z ∷ p) (suc (suc k)) h le = parts_at (n - 1) m p k (λ g lt. h (suc g) (omega (arith, lt))) (omega (arith, le))

-- the monomial of an integer vector that is 0 past n
pub monomial_of_over : (n : ℕ) (p : List ℤ) → ((g : ℕ) → n ≤ g → slice_index_or p g (pos 0) ≡ pos 0) → MonoIsOver n (monomial_of p)
monomial_of_over n p h = λ k le. parts_at n (48 - 2 * length p) p k h le

-- ---- vectors

-- a place whose coefficient isn't 0 stands in the sum
stands : (P : Place → Type 0) (f : FormalSum Place) (x : Place) → AllByRecursion (λ t. P t.1) f → coefficient same_place f x ≢ pos 0 → P x
stands P [] x h some = absurd (some refl)
stands P (t ∷ f) x h some = by (same_place t.1 x) refl (stands P f x h.1) where
  by : (b : Bool) → same_place t.1 x ≡ b → (coefficient same_place f x ≢ pos 0 → P x) → P x
  by true e again = subst P (test.sound t.1 x e) h.0
  by false e again = again (λ z. some (rw e (+ℤ_idl (coefficient same_place f x) ∙ z)))

others : (t : Term) (v : List Term) (x : Place) → Falls (t ∷ v) → coefficient_at v x ≢ pos 0 → coefficient_at (t ∷ v) x ≢ pos 0
others t v x f some e = by (same_place t.at x) refl e where
  by : (b : Bool) → same_place t.at x ≡ b → (if b then t.k else pos 0) +ℤ coefficient_at v x ≡ pos 0 → ⊥
  by true h k = some (subst (λ (y : Place). coefficient_at v y ≡ pos 0) (test.sound t.at x h) (at_above t.at v f.0))
  by false h k = some (sym (+ℤ_idl (coefficient_at v x)) ∙ k)

each : (P : Place → Type 0) (v : List Term) → Falls v → AllByRecursion IsTerm v → ((x : Place) → coefficient_at v x ≢ pos 0 → P x)
    → AllByRecursion (λ t. P t.at) v
each P [] f h k = tt
each P (t ∷ v) f h k =
    (k t.at (λ e. h.0.nonzero (sym (coefficient-first test order (t.k, t.at) (sum_of v) f.0) ∙ e)), each P v f.1 h.1 (λ x some. k x (others t v x f some)))

-- a vector is over the generators where each place with a coefficient is
pub coefficients_over : (n : ℕ) (f : Coefficients) (v : List Term) → IsSparse v → Has v f → ((x : Place) → f x ≢ pos 0 → PlaceIsOver n x) → VectorIsOver n v
coefficients_over n f v sparse is h = each (PlaceIsOver n) v sparse.falling sparse.terms (λ x some. h x (λ e. some (is x ∙ e)))

-- or where each place of a sum that is the same is
pub sum_over : (n : ℕ) (f : FormalSum Place) (v : List Term) → IsSparse v → Same same_place (sum_of v) f → AllByRecursion (λ t. PlaceIsOver n t.1) f
    → VectorIsOver n v
sum_over n f v sparse same h = coefficients_over n (coefficient same_place f) v sparse same (λ x some. stands (PlaceIsOver n) f x h some)
