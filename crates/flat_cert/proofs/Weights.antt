-- Weights of sums, and limits that stay passed.
use Rattle.std.proofs.Common.{◌≡◌, inl, inr, ℕ, zero, suc, ◌+◌, ◌*◌, ◌<◌, ◌≤◌, cond, ℤ, pos, negsuc, ◌*ℤ◌, neg_ℤ, List, [], ◌∷◌, ◌++◌, refl, sym, ap, ◌∙◌}
use Rattle.std.proofs.Common.{arith}
use Rattle.std.specs.Prelude.{◌≢◌, unsigned_abs}
use Rattle.std.specs.List.{AllByRecursion}
use Rattle.std.proofs.lemmas.Int.{unsigned_abs-mul}
use Rattle.formal_sums.specs.FormalSum.{FormalSum}
use Rattle.formal_sums.specs.Span.{multiple}
use Rattle.module_vec.specs.declared.places.Place.{Place}
use Rattle.module_vec.specs.Places.{same_place, moved}
use Rattle.module_vec.proofs.Order.{test}
use Rattle.flat_cert.specs.Images.{flat_place, flat_image}
use Rattle.flat_cert.specs.Weights.{weight, IsBeyond}

pub all_more : {A : Type 0} (P Q : A → Type 0) (xs : List A) → ((x : A) → P x → Q x) → AllByRecursion P xs → AllByRecursion Q xs
all_more P Q [] h all = tt
all_more P Q (x ∷ xs) h all = (h x all.0, all_more P Q xs h all.1)

pub weight-append : (v w : FormalSum Place) (x : Place) → weight (v ++ w) x ≡ weight v x + weight w x
weight-append [] w x = omega arith
weight-append (t ∷ v) w x = omega (arith, weight-append v w x)

pub weight_own : (q : ℤ) (x : Place) → weight ((q, x) ∷ []) x ≡ unsigned_abs q
weight_own q x = rw (test.reflexive x) (omega arith)

pub beyond_more : (W V : Place → ℕ) → ((x : Place) → W x ≤ V x) → IsBeyond W → IsBeyond V
beyond_more W V h (inl (x, some, far)) = inl (x, omega (arith, some, h x), far)
beyond_more W V h (inr (inl (x, heavy))) = inr (inl (x, omega (arith, heavy, h x)))
beyond_more W V h (inr (inr (xs, distinct, all, many))) =
    inr (inr (xs, distinct, all_more (λ x. 0 < W x) (λ x. 0 < V x) xs (λ x some. omega (arith, some, h x)) all, many))

pub abs_some : (z : ℤ) → z ≢ pos 0 → 0 < unsigned_abs z
abs_some (pos zero) h = absurd (h refl)
abs_some (pos (suc n)) h = omega arith
abs_some (negsuc n) h = omega arith

abs_turned : (q : ℤ) → unsigned_abs (neg_ℤ q) ≡ unsigned_abs q
abs_turned (pos zero) = refl
abs_turned (pos (suc n)) = refl
abs_turned (negsuc n) = refl

-- signs don't count
pub weight_turned : (q : ℤ) (t : List ℕ) (v : FormalSum Place) (x : Place)
    → weight (flat_image (multiple moved (neg_ℤ q) t v)) x ≡ weight (flat_image (multiple moved q t v)) x
weight_turned q t [] x = refl
weight_turned q t ((k, y) ∷ v) x =
    let same : unsigned_abs (neg_ℤ q *ℤ k) ≡ unsigned_abs (q *ℤ k) =
    unsigned_abs-mul (neg_ℤ q) k ∙ ap (λ n. n * unsigned_abs k) (abs_turned q) ∙ sym (unsigned_abs-mul q k) in
    λ i. cond (same_place (flat_place (moved t y)) x) (same i) 0 + weight_turned q t v x i
