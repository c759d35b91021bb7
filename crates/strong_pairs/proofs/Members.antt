-- Sums of steps: appended, scaled, and carried by a monomial; and the module that they make.
use Rattle.std.proofs.Common.{◌≡◌, ℕ, ◌+◌, ◌<◌, ℤ, negsuc, ◌+ℤ◌, ◌-ℤ◌, ◌*ℤ◌, List, [], ◌∷◌, ◌++◌, length, append_assoc, refl, sym, ap, ◌∙◌, arith}
use borrow.Author.Differences.{ints}
use Rattle.formal_sums.specs.FormalSum.{FormalSum, coefficient, scale, rename}
use Rattle.formal_sums.proofs.Coefficients.{coefficient-append, coefficient-scale, scale-append, rename-append, scale-scale, rename-scale, rename-rename}
use Rattle.formal_sums.proofs.Evaluation.{Same-rename}
use Rattle.laurent_terms.specs.declared.TheConstants.{VARIABLES}
use Rattle.laurent_terms.specs.Monomials.{product}
use Rattle.laurent_terms.proofs.Combining.{length-combined}
use Rattle.laurent_terms.proofs.Division.{product_assoc}
use Rattle.module_vec.specs.declared.places.Place.{Place}
use Rattle.module_vec.specs.declared.places.Term.{Term}
use Rattle.module_vec.specs.declared.steps.Step.{Step}
use Rattle.module_vec.specs.Chains.{taken_at}
use Rattle.module_vec.specs.Modules.{vector_at, sum_of_steps, steps_at, AreSteps, InModule}
use Rattle.module_vec.specs.Places.{same_place, moved}
use Rattle.module_vec.specs.Vectors.{Coefficients, sum_of, coefficient_at, multiple}
use Rattle.module_vec.proofs.Order.{test}

-- the steps, each q·t times as much
abbrev pub carried : ℤ → List ℕ → List Step → List Step
carried q t [] = []
carried q t (s ∷ ss) = record { q = q *ℤ s.q; t = product t s.t; by = s.by } ∷ carried q t ss

-- the steps, each q times as much
abbrev pub scaled : ℤ → List Step → List Step
scaled q [] = []
scaled q (s ∷ ss) = record { q = q *ℤ s.q; t = s.t; by = s.by } ∷ scaled q ss

pub moved-moved : (t s : List ℕ) (p : Place) → moved t (moved s p) ≡ moved (product t s) p
moved-moved t s p = λ i. record { m = sym (product_assoc t s p.m) i; c = p.c }

pub length-product : (t s : List ℕ) (n : ℕ) → length t ≡ n → length s ≡ n → length (product t s) ≡ n
length-product t s n e f = length-combined (λ a b. a + b) t s (e ∙ sym f) ∙ e

module _ (b : List (List Term)) where
  pub sum-append : (ss rs : List Step) → sum_of_steps b (ss ++ rs) ≡ sum_of_steps b ss ++ sum_of_steps b rs
  sum-append [] rs = refl
  sum-append (s ∷ ss) rs = ap (λ v. multiple s.q s.t (vector_at b s.by) ++ v) (sum-append ss rs)
      ∙ sym (append_assoc (multiple s.q s.t (vector_at b s.by)) (sum_of_steps b ss) (sum_of_steps b rs))

  pub sum-scaled : (q : ℤ) (ss : List Step) → sum_of_steps b (scaled q ss) ≡ scale q (sum_of_steps b ss)
  sum-scaled q [] = refl
  sum-scaled q (s ∷ ss) =
      (λ i. sym (scale-scale q s.q (rename (moved s.t) (sum_of (vector_at b s.by)))) i ++ sum-scaled q ss i)
      ∙ sym (scale-append q (multiple s.q s.t (vector_at b s.by)) (sum_of_steps b ss))

  one-carried : (q p : ℤ) (t s : List ℕ) (v : FormalSum Place) → scale (q *ℤ p) (rename (moved (product t s)) v)
      ≡ scale q (rename (moved t) (scale p (rename (moved s) v)))
  one-carried q p t s v =
      sym (scale-scale q p (rename (moved (product t s)) v))
      ∙ ap (λ w. scale q (scale p w)) ((λ i. rename (λ x. sym (moved-moved t s x) i) v) ∙ sym (rename-rename (moved t) (moved s) v))
      ∙ ap (scale q) (sym (rename-scale (moved t) p (rename (moved s) v)))

  pub sum-carried : (q : ℤ) (t : List ℕ) (ss : List Step) → sum_of_steps b (carried q t ss) ≡ scale q (rename (moved t) (sum_of_steps b ss))
  sum-carried q t [] = refl
  sum-carried q t (s ∷ ss) =
      (λ i. one-carried q s.q t s.t (sum_of (vector_at b s.by)) i ++ sum-carried q t ss i)
      ∙ sym (scale-append q (rename (moved t) (multiple s.q s.t (vector_at b s.by))) (rename (moved t) (sum_of_steps b ss)))
      ∙ ap (scale q) (sym (rename-append (moved t) (multiple s.q s.t (vector_at b s.by)) (sum_of_steps b ss)))

  -- ---- by coefficients
  pub steps_at-cons : (s : Step) (ss : List Step) (x : Place) → steps_at b (s ∷ ss) x ≡ taken_at b s x +ℤ steps_at b ss x
  steps_at-cons s ss x = coefficient-append same_place (multiple s.q s.t (vector_at b s.by)) (sum_of_steps b ss) x

  pub steps_at-append : (ss rs : List Step) (x : Place) → steps_at b (ss ++ rs) x ≡ steps_at b ss x +ℤ steps_at b rs x
  steps_at-append ss rs x = ap (λ v. coefficient same_place v x) (sum-append ss rs) ∙ coefficient-append same_place (sum_of_steps b ss) (sum_of_steps b rs) x

  pub steps_at-scaled : (q : ℤ) (ss : List Step) (x : Place) → steps_at b (scaled q ss) x ≡ q *ℤ steps_at b ss x
  steps_at-scaled q ss x = ap (λ v. coefficient same_place v x) (sum-scaled q ss) ∙ coefficient-scale same_place q (sum_of_steps b ss) x

  -- what has the coefficients of a sum of steps has them still when both are carried
  pub carried_same : (q : ℤ) (t : List ℕ) (v : FormalSum Place) (ss : List Step) → ((x : Place) → coefficient same_place v x ≡ steps_at b ss x) → (x : Place)
      → coefficient same_place (scale q (rename (moved t) v)) x ≡ steps_at b (carried q t ss) x
  carried_same q t v ss h x =
      coefficient-scale same_place q (rename (moved t) v) x
      ∙ ap (λ z. q *ℤ z) (Same-rename test same_place (moved t) v (sum_of_steps b ss) h x)
      ∙ sym (coefficient-scale same_place q (rename (moved t) (sum_of_steps b ss)) x)
      ∙ ap (λ w. coefficient same_place w x) (sym (sum-carried q t ss))

  -- ---- they stay steps
  pub are_append : (ss rs : List Step) → AreSteps b ss → AreSteps b rs → AreSteps b (ss ++ rs)
  are_append [] rs h g = g
  are_append (s ∷ ss) rs h g = (h.0, are_append ss rs h.1 g)

  pub are_scaled : (q : ℤ) (ss : List Step) → AreSteps b ss → AreSteps b (scaled q ss)
  are_scaled q [] h = tt
  are_scaled q (s ∷ ss) h = (h.0, are_scaled q ss h.1)

  pub are_carried : (q : ℤ) (t : List ℕ) → length t ≡ VARIABLES → (ss : List Step) → AreSteps b ss → AreSteps b (carried q t ss)
  are_carried q t e [] h = tt
  are_carried q t e (s ∷ ss) h = ((length-product t s.t VARIABLES e h.0.0, h.0.1), are_carried q t e ss h.1)

-- ---- the module

pub module_same : (gens : List (List Term)) (f g : Coefficients) → ((x : Place) → g x ≡ f x) → InModule gens f → InModule gens g
module_same gens f g e h = record { steps = h.steps; are = h.are; is = λ x. e x ∙ h.is x }

pub module_difference : (gens : List (List Term)) (f g h : Coefficients) → InModule gens f → InModule gens g → ((x : Place) → h x ≡ f x -ℤ g x)
    → InModule gens h
module_difference gens f g h p q e = record {
  steps = p.steps ++ scaled (negsuc 0) q.steps;
  are = are_append gens p.steps (scaled (negsuc 0) q.steps) p.are (are_scaled gens (negsuc 0) q.steps q.are);
  is = λ x. solve (f x) (g x) (h x) (steps_at gens p.steps x) (steps_at gens q.steps x) (steps_at gens (scaled (negsuc 0) q.steps) x) (e x) (p.is x) (q.is x)
      (steps_at-scaled gens (negsuc 0) q.steps x) ∙ sym (steps_at-append gens p.steps (scaled (negsuc 0) q.steps) x);
}
  where
    solve : (f g h a c d : ℤ) → h ≡ f -ℤ g → f ≡ a → g ≡ c → d ≡ negsuc 0 *ℤ c → h ≡ a +ℤ d
    solve f g h a c d e p q r = omega (arith, ints)

-- sums of multiples of members are members
pub sum_in : (gens b : List (List Term)) → ((i : ℕ) → i < length b → InModule gens (coefficient_at (vector_at b i))) → (ss : List Step) → AreSteps b ss
    → InModule gens (steps_at b ss)
sum_in gens b members [] h = record { steps = []; are = tt; is = λ x. refl }
sum_in gens b members (s ∷ ss) h =
    let rest : InModule gens (steps_at b ss) = sum_in gens b members ss h.1 in
    let one : InModule gens (coefficient_at (vector_at b s.by)) = members s.by h.0.1 in
    record {
      steps = carried s.q s.t one.steps ++ rest.steps;
      are = are_append gens (carried s.q s.t one.steps) rest.steps (are_carried gens s.q s.t h.0.0 one.steps one.are) rest.are;
      is = λ x. steps_at-cons b s ss x
          ∙ (λ i. carried_same gens s.q s.t (sum_of (vector_at b s.by)) one.steps one.is x i +ℤ rest.is x i)
          ∙ sym (steps_at-append gens (carried s.q s.t one.steps) rest.steps x);
    }
