-- The module of a presentation is what the list of its generators makes.
use Rattle.std.proofs.Common.{◌⊎◌, inl, inr, ℕ, ◌<◌, ℤ, ◌+ℤ◌, List, [], ◌∷◌, ◌++◌, length, refl, sym, ap, ◌∙◌}
use Rattle.std.proofs.Math.IntN.{+ℤ_idl}
use Rattle.presentation.specs.Presented.{Presented}
use Rattle.formal_sums.specs.FormalSum.{FormalSum, coefficient, Same, scale, rename}
use Rattle.formal_sums.specs.Span as span
use Rattle.formal_sums.specs.Span.{SumOfMultiples, IsSpanned}
use Rattle.formal_sums.proofs.Coefficients.{coefficient-append, Same-scale}
use Rattle.formal_sums.proofs.Evaluation.{Same-rename}
use Rattle.formal_sums.proofs.Spans.{spanned_same, spanned_nothing, spanned-append, spanned_multiple}
use Rattle.module_vec.specs.declared.places.Place.{Place}
use Rattle.module_vec.specs.declared.places.Term.{Term}
use Rattle.module_vec.specs.declared.steps.Step.{Step}
use Rattle.module_vec.specs.Places.{same_place, moved}
use Rattle.module_vec.specs.Vectors.{sum_of, multiple}
use Rattle.module_vec.specs.Modules.{vector_at, sum_of_steps, AreSteps, InModule}
use Rattle.module_vec.proofs.Order.{test}
use Rattle.fox_calculus.specs.Generators.{candidates, IsZero, AreGenerators}
use Rattle.fox_calculus.specs.Module.{IsGenerator, HasVariables, IsMember}
use Rattle.fox_calculus.proofs.Listed.{candidates_are, is_candidate, Origin, origin, Written, written}

-- multiples of equal sums are equal
same_multiple : (q : ℤ) (t : List ℕ) (f g : FormalSum Place) → Same same_place f g
    → Same same_place (scale q (rename (moved t) f)) (scale q (rename (moved t) g))
same_multiple q t f g e =
    Same-scale same_place q (rename (moved t) f) (rename (moved t) g) (Same-rename test same_place (moved t) f g e)

abbrev Member : Presented → FormalSum Place → Type 0
Member p v = IsSpanned same_place moved HasVariables (IsGenerator p) v

steps_member : (p : Presented) (gens : List (List Term)) → ((i : ℕ) → i < length gens → Origin (IsGenerator p) (vector_at gens i)) → (ss : List Step)
    → AreSteps gens ss
    → Member p (sum_of_steps gens ss)
steps_member p gens from [] are = spanned_nothing same_place moved HasVariables (IsGenerator p)
steps_member p gens from (s ∷ ss) are =
    let o = from s.by are.0.1 in
    spanned-append same_place moved HasVariables (IsGenerator p) (multiple s.q s.t (vector_at gens s.by)) (sum_of_steps gens ss)
    (spanned_same same_place moved HasVariables (IsGenerator p) (multiple s.q s.t (vector_at gens s.by)) (span.multiple moved s.q s.t o.from)
    (same_multiple s.q s.t (sum_of (vector_at gens s.by)) o.from o.is.same)
    (spanned_multiple same_place moved HasVariables (IsGenerator p) s.q s.t o.from are.0.0 o.has))
    (steps_member p gens from ss are.1)

pub listed_member : (p : Presented) (gens : List (List Term)) (v : FormalSum Place) → AreGenerators p gens → InModule gens (λ x. coefficient same_place v x)
    → IsMember p v
listed_member p gens v are sums =
    spanned_same same_place moved HasVariables (IsGenerator p) v (sum_of_steps gens sums.steps) sums.is
    (steps_member p gens (origin (IsGenerator p) (candidates p) gens are (candidates_are p)) sums.steps sums.are)

-- one more multiple of a generator
abbrev In : List (List Term) → FormalSum Place → Type 0
In gens v = InModule gens (λ x. coefficient same_place v x)

more_by : (gens : List (List Term)) (q : ℤ) (t : List ℕ) (g v : FormalSum Place) → HasVariables t → IsZero g ⊎ Written g gens → In gens v
    → In gens (span.multiple moved q t g ++ v)
more_by gens q t g v long (inl z) sums = record {
  steps = sums.steps;
  are = sums.are;
  is = λ x. coefficient-append same_place (scale q (rename (moved t) g)) v x
      ∙ (ap (λ n. n +ℤ coefficient same_place v x) (same_multiple q t g [] z x) ∙ (+ℤ_idl (coefficient same_place v x) ∙ sums.is x));
}
more_by gens q t g v long (inr w) sums = record {
  steps = record { q = q; t = t; by = w.number } ∷ sums.steps;
  are = ((long, w.below), sums.are);
  is = λ x. coefficient-append same_place (scale q (rename (moved t) g)) v x
      ∙ (ap (λ n. n +ℤ coefficient same_place v x) (sym (same_multiple q t (sum_of (vector_at gens w.number)) g w.is.same x))
      ∙ (ap (λ n. coefficient same_place (multiple q t (vector_at gens w.number)) x +ℤ n) (sums.is x)
      ∙ sym (coefficient-append same_place (multiple q t (vector_at gens w.number)) (sum_of_steps gens sums.steps) x)));
}

sum_listed : (p : Presented) (gens : List (List Term)) → ((g : FormalSum Place) → IsGenerator p g → IsZero g ⊎ Written g gens) → (w : FormalSum Place)
    → SumOfMultiples moved HasVariables (IsGenerator p) w → In gens w
sum_listed p gens find _ SumOfMultiples.nothing = record { steps = []; are = tt; is = λ x. refl }
sum_listed p gens find _ (SumOfMultiples.more q t g v long gen rest) = more_by gens q t g v long (find g gen) (sum_listed p gens find v rest)

pub member_listed : (p : Presented) (gens : List (List Term)) (v : FormalSum Place) → AreGenerators p gens → IsMember p v
    → InModule gens (λ x. coefficient same_place v x)
member_listed p gens v are (w, total, same) =
    let sums = sum_listed p gens (λ g k. written (candidates p) gens are g (is_candidate p g k)) w total in
    record { steps = sums.steps; are = sums.are; is = λ x. same x ∙ sums.is x }
