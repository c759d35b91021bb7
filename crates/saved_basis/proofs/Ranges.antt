-- The factors of recipes are in the range, so that the entries of a record can be written.
use Rattle.std.proofs.Common.{◌≡◌, ◌≢◌, ℕ, zero, suc, ◌*◌, ◌<◌, ◌≤◌, ◌⊎◌, inl, inr, ℤ, pos, ◌*ℤ◌, unsigned_abs, List, [], ◌∷◌}
use Rattle.std.proofs.Common.{length, take, Some, sym, ap, subst, ◌∙◌, arith}
use Rattle.std.specs.Prelude.{◌<ℤ◌}
use Rattle.std.proofs.lemmas.Int.{unsigned_abs-mul}
use borrow.Author.Differences.{ints}
use Rattle.std.specs.List.{AllByRecursion, slice_get}
use Rattle.laurent_terms.specs.Monomials.{IsMonomial}
use Rattle.presentation.specs.Presented.{Presented}
use Rattle.module_vec.specs.declared.places.Place.{Place}
use Rattle.module_vec.specs.declared.places.Term.{Term}
use Rattle.module_vec.specs.declared.steps.Step.{Step}
use Rattle.module_vec.specs.Chains.{taken_at}
use Rattle.module_vec.specs.Modules.{vector_at}
use Rattle.module_vec.specs.Places.{moved}
use Rattle.module_vec.specs.Reducers.{AreEntries}
use Rattle.module_vec.specs.Vectors.{Coefficients, InRange, IsWide, coefficient_at}
use Rattle.step_lists.specs.declared.way.Way.TheVariants.{Add}
use Rattle.step_lists.specs.Sums.{Adds, passed, zero_vector, IsInReach}
use Rattle.step_text.specs.Over.{StepsAreOver}
use Rattle.strong_pairs.specs.Pairs.{lead_at}
use Rattle.strong_pairs.proofs.Entered.{lead_positive}
use Rattle.strong_pairs.proofs.Shifted.{taken_is, shifted_lead}
use Rattle.vector_text.specs.Over.{VectorIsOver}
use Rattle.report_lines.specs.Lines.{MadeIsOver}
use Rattle.basis_entry.specs.declared.recipes.Recipe.{Recipe}
use Rattle.basis_entry.specs.declared.recipes.Recipe.TheVariants.{Sum}
use Rattle.basis_entry.specs.Base.{IsOfGenerator}
use Rattle.basis_entry.specs.Entries.{BasisEntry, IsBasisEntry, HasMonomials, MonosAreOver, RecipeIsOver, vectors_of}
use Rattle.basis_entry.proofs.Vectors.{are_entries}
use Rattle.pair_work.proofs.Reading.{all_from, all_get}
use Rattle.report_text.specs.Histories.{made_by}
use Rattle.report_text.specs.Reports.{IsSumOver, IsRecord, EntryIsOver}
use Rattle.report_text.proofs.Lists.{all_first}
use Rattle.report_acceptance.proofs.Items.{get_first}

narrow_range : (z : ℤ) → (IsWide z → ⊥) → InRange z
narrow_range z not = grind arith

le_times : (a c : ℕ) → 0 < c → a ≤ a * c
le_times a c h = grind arith

positive_abs : (k : ℤ) → pos 0 <ℤ k → 0 < unsigned_abs k
positive_abs k h = omega (arith, ints, h)

factor_range : (q k : ℤ) → pos 0 <ℤ k → InRange (q *ℤ k) → InRange q
factor_range q k positive range =
    let le : unsigned_abs q ≤ unsigned_abs q * unsigned_abs k = le_times (unsigned_abs q) (unsigned_abs k) (positive_abs k positive) in
    let same : unsigned_abs (q *ℤ k) ≡ unsigned_abs q * unsigned_abs k = unsigned_abs-mul q k in
    omega (arith, le, same, range)

-- the multiple of a lead by a step's factor is in the range, and so is the factor
in_range : (b : List (List Term)) (ss : List Step) (f g : Coefficients) → AreEntries b → AllByRecursion (λ s. IsMonomial s.t) ss
    → AllByRecursion (IsInReach b) ss → Adds b f ss g
    → AllByRecursion (λ s. InRange s.q) ss
in_range b [] f g entries monos reach adds = tt
in_range b (s ∷ ss) f g entries monos reach adds =
    let number : s.by < length b = reach.0.number in
    let x : Place = moved s.t (lead_at b s.by).at in
    let there : taken_at b s x ≡ s.q *ℤ (lead_at b s.by).k = taken_is b s x ∙ ap (λ (k : ℤ). s.q *ℤ k)
    (shifted_lead b entries s.t s.by monos.0.variables number) in
    let range : InRange (taken_at b s x) = narrow_range (taken_at b s x) (λ wide. adds.0.narrow x (inl wide)) in (
      factor_range s.q (lead_at b s.by).k (lead_positive b entries s.by number) (subst InRange there range),
      in_range b ss (passed Add b f s) g entries monos.1 reach.1 adds.1,
    )

steps_over : (n : ℕ) (ss : List Step) → AllByRecursion (λ s. s.q ≢ pos 0) ss → AllByRecursion (λ s. InRange s.q) ss → MonosAreOver n ss → StepsAreOver n ss
steps_over n [] some range over = tt
steps_over n (s ∷ ss) some range over = (record { nonzero = some.0; range = range.0; mono = over.0 }, steps_over n ss some.1 range.1 over.1)

-- ---- one entry

pub generator_over : (p : Presented) (k : ℕ) (g : List Term) (e : BasisEntry) → IsBasisEntry e → IsOfGenerator p k g e → EntryIsOver (length p.names) e
generator_over p k g e known of = record {
  vector = subst (λ (q : Presented). VectorIsOver (length q.names) e.vector) of.source known.over;
  recipe = subst (λ (r : Recipe). MadeIsOver (length p.names) (made_by r)) (sym of.recipe) tt;
}

sum_over : (p : Presented) (b : List (List Term)) (e : BasisEntry) → AreEntries b → e.source ≡ p → IsBasisEntry e → IsSumOver b e
    → EntryIsOver (length p.names) e
sum_over p b e entries source known is =
    let over : RecipeIsOver (length p.names) e.recipe = subst (λ (q : Presented). RecipeIsOver (length q.names) e.recipe) source known.recipe in
    let monos : HasMonomials (Sum is.steps) = subst HasMonomials is.recipe known.monomials in
    record {
      vector = subst (λ (q : Presented). VectorIsOver (length q.names) e.vector) source known.over;
      recipe = subst (λ (r : Recipe). MadeIsOver (length p.names) (made_by r)) (sym is.recipe)
          (steps_over (length p.names) is.steps is.value.nonzero
          (in_range b is.steps zero_vector (coefficient_at e.vector) entries monos is.value.reach is.value.adds)
          (subst (RecipeIsOver (length p.names)) is.recipe over));
    }

-- ---- all entries

pub le_or_less : (m k : ℕ) → (m ≤ k) ⊎ (k < m)
le_or_less zero k = inl (omega arith)
le_or_less (suc m) zero = inr (omega arith)
le_or_less (suc m) (suc k) = elim (le_or_less m k) [
  | inl le ↦ inl (omega (arith, le))
  | inr lt ↦ inr (omega (arith, lt))
]

pub record_over : (p : Presented) (base : ℕ) (es : List BasisEntry) → AllByRecursion IsBasisEntry es → IsRecord p base es
    → AllByRecursion (EntryIsOver (length p.names)) es
record_over p base es known log = all_from (EntryIsOver (length p.names)) es (λ k e at. by k e at (le_or_less base k))
  where
    by : (k : ℕ) (e : BasisEntry) → slice_get es k ≡ Some e → (base ≤ k) ⊎ (k < base) → EntryIsOver (length p.names) e
    by k e at (inl high) =
        sum_over p (vectors_of (take k es)) e (are_entries (take k es) (all_first IsBasisEntry k es known))
        (all_get (λ (x : BasisEntry). x.source ≡ p) es k e log.source at) (all_get IsBasisEntry es k e known at) (log.later k e high at)
    by k e at (inr low) =
        generator_over p k (vector_at log.begins.gens k) e (all_get IsBasisEntry es k e known at)
        (log.begins.each k e (get_first es base k e low at))
