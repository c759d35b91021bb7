-- What the module of a presentation is closed under; so the sums of steps over entries lie in it.
use Rattle.std.proofs.Common.{◌≡◌, ℕ, zero, suc, ◌+◌, ◌<◌, ℤ, List, [], ◌∷◌, length, sym, subst, ◌∙◌, arith}
use Rattle.std.specs.List.{AllByRecursion}
use Rattle.presentation.specs.Presented.{Presented}
use Rattle.formal_sums.specs.FormalSum.{FormalSum, scale}
use Rattle.formal_sums.specs.Span as span
use Rattle.formal_sums.proofs.Spans.{spanned_same, spanned_nothing, spanned-append, spanned-scale, spanned-multiple}
use Rattle.laurent_terms.specs.declared.TheConstants.{VARIABLES}
use Rattle.laurent_terms.specs.Monomials.{product}
use Rattle.laurent_terms.proofs.Combining.{length-combined}
use Rattle.laurent_terms.proofs.Division.{product_assoc}
use Rattle.module_vec.specs.declared.places.Place.{Place}
use Rattle.module_vec.specs.declared.places.Term.{Term}
use Rattle.module_vec.specs.declared.steps.Step.{Step}
use Rattle.module_vec.specs.Modules.{vector_at, sum_of_steps, steps_at, AreSteps, InModule}
use Rattle.module_vec.specs.Places.{same_place, moved}
use Rattle.module_vec.specs.Results.{Has}
use Rattle.module_vec.specs.Vectors.{sum_of, coefficient_at, multiple}
use Rattle.module_vec.proofs.Order.{test}
use Rattle.fox_calculus.specs.Generators.{AreGenerators}
use Rattle.fox_calculus.specs.Module.{IsGenerator, HasVariables, IsMember}
use Rattle.fox_calculus.proofs.Members.{member_listed}
use Rattle.basis_entry.specs.Entries.{BasisEntry, IsBasisEntry, AreOf, vectors_of}

length-product : (s t : List ℕ) → length s ≡ VARIABLES → length t ≡ VARIABLES → length (product s t) ≡ VARIABLES
length-product s t e f = length-combined (λ a b. a + b) s t (e ∙ sym f) ∙ e

module _ (p : Presented) where
  pub member_scale : (q : ℤ) (v : FormalSum Place) → IsMember p v → IsMember p (scale q v)
  member_scale q v h = spanned-scale same_place moved HasVariables (IsGenerator p) q v h

  -- the multiple q·t·v of a member
  member_multiple : (q : ℤ) (t : List ℕ) (v : FormalSum Place) → HasVariables t → IsMember p v → IsMember p (span.multiple moved q t v)
  member_multiple q t v long h =
      spanned-multiple same_place moved HasVariables (IsGenerator p) test product (λ s r e f. length-product s r e f)
      (λ s r k i. record { m = sym (product_assoc s r k.m) i; c = k.c }) q t v long h

  entry_member : (es : List BasisEntry) → AllByRecursion IsBasisEntry es → AreOf p es → (i : ℕ) → i < length (vectors_of es)
      → IsMember p (sum_of (vector_at (vectors_of es) i))
  entry_member [] all of i lt = absurd (omega (arith, lt))
  entry_member (e ∷ es) all of zero lt = subst (λ (q : Presented). IsMember q (sum_of e.vector)) of.0 all.0.member
  entry_member (e ∷ es) all of (suc i) lt = entry_member es all.1 of.1 i (omega (arith, lt))

  sum_member : (b : List (List Term)) → ((i : ℕ) → i < length b → IsMember p (sum_of (vector_at b i))) → (ss : List Step) → AreSteps b ss
      → IsMember p (sum_of_steps b ss)
  sum_member b h [] are = spanned_nothing same_place moved HasVariables (IsGenerator p)
  sum_member b h (s ∷ ss) are =
      spanned-append same_place moved HasVariables (IsGenerator p) (multiple s.q s.t (vector_at b s.by)) (sum_of_steps b ss)
      (member_multiple s.q s.t (sum_of (vector_at b s.by)) are.0.0 (h s.by are.0.1)) (sum_member b h ss are.1)

  -- a vector that is a sum of steps over entries
  pub value_member : (es : List BasisEntry) (b : List (List Term)) (ss : List Step) (v : List Term) → b ≡ vectors_of es
      → AllByRecursion IsBasisEntry es → AreOf p es
      → AreSteps b ss → Has v (steps_at b ss) → IsMember p (sum_of v)
  value_member es b ss v are all of steps is =
      let each : (i : ℕ) → i < length b → IsMember p (sum_of (vector_at b i)) = subst (λ (w : List (List Term)). (i : ℕ) → i < length w
      → IsMember p (sum_of (vector_at w i))) (sym are) (entry_member es all of) in
      spanned_same same_place moved HasVariables (IsGenerator p) (sum_of v) (sum_of_steps b ss) is (sum_member b each ss steps)

-- the vectors of entries over the list of generators
pub entries_listed : (p : Presented) (gens : List (List Term)) (es : List BasisEntry) → AreGenerators p gens → AllByRecursion IsBasisEntry es → AreOf p es
    → (j : ℕ) → j < length (vectors_of es) → InModule gens (coefficient_at (vector_at (vectors_of es) j))
entries_listed p gens es are all of j lt = member_listed p gens (sum_of (vector_at (vectors_of es) j)) are (entry_member p es all of j lt)
