-- What sums of pairs are worth: each pair of an entry and a monomial is that multiple of the entry's vector, with x_g·y_g
-- cancelled.
use Rattle.std.proofs.Common.{◌≡◌, ◌∙◌, ℕ, ℤ, ◌*ℤ◌, List, [], ◌∷◌, ◌++◌, refl, sym, ap}
use Rattle.std.specs.List.{AllByRecursion}
use Rattle.formal_sums.specs.Evaluation.{evaluate, sum_addition}
use Rattle.formal_sums.specs.FormalSum.{FormalSum, Same, scale, rename}
use Rattle.formal_sums.specs.Span.{multiple}
use Rattle.formal_sums.proofs.Coefficients.{Same-scale, scale-append, rename-append, scale-scale, rename-scale, rename-rename}
use Rattle.formal_sums.proofs.Evaluation.{sums_additive, evaluate-append, evaluate-same, Same-rename}
use Rattle.laurent_terms.specs.Monomials.{product}
use Rattle.laurent_terms.proofs.Division.{product_assoc}
use Rattle.module_vec.specs.declared.places.Place.{Place}
use Rattle.module_vec.specs.declared.places.Term.{Term}
use Rattle.module_vec.specs.declared.steps.Step.{Step}
use Rattle.module_vec.specs.Modules.{vector_at, sum_of_steps}
use Rattle.module_vec.specs.Places.{same_place, moved}
use Rattle.module_vec.specs.Vectors.{sum_of}
use Rattle.module_vec.proofs.Order.{test}
use Rattle.fox_calculus.specs.Module.{HasVariables}
use Rattle.flat_cert.specs.Images.{flat_place, flat_image, cancelled}
use Rattle.flat_making.specs.Handing.{steps_sum}
use Rattle.flat_making.proofs.Monomials.{cancelled_first}

-- each monomial has an exponent for each variable
abbrev pub AreLong : FormalSum Place → Type 0
AreLong v = AllByRecursion (λ t. HasVariables t.1.m) v

pub flat_same : (v w : FormalSum Place) → Same same_place v w → Same same_place (flat_image v) (flat_image w)
flat_same v w e = Same-rename test same_place flat_place v w e

-- a multiple of a flat monomial
flat_first : (s : List ℕ) (v : FormalSum Place) → HasVariables s → AreLong v
    → flat_image (rename (moved (cancelled s)) v) ≡ flat_image (rename (moved s) v)
flat_first s [] long all = refl
flat_first s (t ∷ v) long all =
    λ i. (t.0, record { m = cancelled_first s t.1.m (long ∙ sym all.0) i; c = t.1.c }) ∷ flat_first s v long all.1 i

-- a multiple of a multiple
flat_twice : (q k : ℤ) (s t : List ℕ) (g : FormalSum Place)
    → scale q (flat_image (rename (moved s) (scale k (rename (moved t) g)))) ≡ scale (q *ℤ k) (flat_image (rename (moved (product s t)) g))
flat_twice q k s t g =
    ap (λ v. scale q (flat_image v)) (rename-scale (moved s) k (rename (moved t) g))
    ∙ ap (scale q) (rename-scale flat_place k (rename (moved s) (rename (moved t) g)))
    ∙ scale-scale q k (flat_image (rename (moved s) (rename (moved t) g)))
    ∙ ap (λ v. scale (q *ℤ k) (flat_image v)) (rename-rename (moved s) (moved t) g)
    ∙ λ i. scale (q *ℤ k) (flat_image (rename (λ x. record { m = sym (product_assoc s t x.m) i; c = x.c }) g))

module _ (b : List (List Term)) where
  -- the vector of an entry, without cancelling
  abbrev pub raw : FormalSum Place → FormalSum Place
  raw v = evaluate sum_addition (λ (x : Place). rename (moved x.m) (sum_of (vector_at b x.c))) v

  abbrev pub worth : Place → FormalSum Place
  worth x = flat_image (rename (moved x.m) (sum_of (vector_at b x.c)))

  abbrev pub value : FormalSum Place → FormalSum Place
  value v = evaluate sum_addition worth v

  pub value-append : (v w : FormalSum Place) → Same same_place (value (v ++ w)) (value v ++ value w)
  value-append v w = evaluate-append (sums_additive same_place) worth v w

  pub value-same : (v w : FormalSum Place) → Same same_place v w → Same same_place (value v) (value w)
  value-same v w e = evaluate-same test (sums_additive same_place) worth v w e

  -- the sum of steps
  pub steps_value : (ss : List Step) → flat_image (sum_of_steps b ss) ≡ value (steps_sum ss)
  steps_value [] = refl
  steps_value (s ∷ ss) =
      rename-append flat_place (scale s.q (rename (moved s.t) (sum_of (vector_at b s.by)))) (sum_of_steps b ss)
      ∙ λ i. rename-scale flat_place s.q (rename (moved s.t) (sum_of (vector_at b s.by))) i ++ steps_value ss i

  pub steps_raw : (ss : List Step) → sum_of_steps b ss ≡ raw (steps_sum ss)
  steps_raw [] = refl
  steps_raw (s ∷ ss) = ap (λ v. scale s.q (rename (moved s.t) (sum_of (vector_at b s.by))) ++ v) (steps_raw ss)

  -- a multiple of a sum of pairs is worth that multiple of what the sum is
  pub value-multiple : (q : ℤ) (s : List ℕ) (v : FormalSum Place)
      → value (multiple moved q s v) ≡ scale q (flat_image (rename (moved s) (raw v)))
  value-multiple q s [] = refl
  value-multiple q s (t ∷ v) =
      let g : FormalSum Place = sum_of (vector_at b t.1.c) in
      let first : FormalSum Place = scale t.0 (rename (moved t.1.m) g) in
      (λ i. sym (flat_twice q t.0 s t.1.m g) i ++ value-multiple q s v i)
      ∙ sym (ap (λ w. scale q (flat_image w)) (rename-append (moved s) first (raw v))
      ∙ ap (scale q) (rename-append flat_place (rename (moved s) first) (rename (moved s) (raw v)))
      ∙ scale-append q (flat_image (rename (moved s) first)) (flat_image (rename (moved s) (raw v))))

  module _ (long : (i : ℕ) → AreLong (sum_of (vector_at b i))) where
    -- cancelling keeps what a sum is worth
    pub value-flat : (v : FormalSum Place) → AreLong v → value (flat_image v) ≡ value v
    value-flat [] all = refl
    value-flat (t ∷ v) all =
        λ i. scale t.0 (flat_first t.1.m (sum_of (vector_at b t.1.c)) all.0 (long t.1.c) i) ++ value-flat v all.1 i

-- a multiple of what is the same
pub multiple_same : (q : ℤ) (s : List ℕ) (v w : FormalSum Place) → Same same_place v w
    → Same same_place (scale q (flat_image (rename (moved s) v))) (scale q (flat_image (rename (moved s) w)))
multiple_same q s v w e =
    Same-scale same_place q (flat_image (rename (moved s) v)) (flat_image (rename (moved s) w))
    (flat_same (rename (moved s) v) (rename (moved s) w) (Same-rename test same_place (moved s) v w e))
