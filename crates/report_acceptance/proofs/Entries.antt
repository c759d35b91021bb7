-- The line of an entry is taken.
use Rattle.std.proofs.Common.{◌≡◌, ℕ, ◌<◌, ◌≤◌, ◌^◌, Bool, true, false, negsuc, List, [], ◌∷◌, ◌++◌, length, sym, ap, subst, ◌∙◌, arith}
use Rattle.std.specs.Prelude.{MatchBool}
use Rattle.std.specs.List.{AllByRecursion}
use Rattle.spelling.specs.Spelling.{IsSmall}
use Rattle.presentation.specs.Presented.{Presented}
use Rattle.formal_sums.specs.FormalSum.{scale}
use Rattle.laurent_terms.specs.Monomials.{IsMonomial}
use Rattle.module_vec.specs.declared.places.Place.{Place}
use Rattle.module_vec.specs.declared.places.Term.{Term}
use Rattle.module_vec.specs.declared.steps.Step.{Step}
use Rattle.module_vec.specs.Vectors.{sum_of, coefficient_at}
use Rattle.module_vec.specs.Modules.{vector_at}
use Rattle.step_lists.specs.Sums.{IsInReach}
use Rattle.step_text.specs.Over.{StepsAreOver, AreStepsOf}
use Rattle.basis_entry.specs.declared.recipes.Recipe.{Recipe}
use Rattle.basis_entry.specs.Base.{has_negative_lead, IsOfGenerator}
use Rattle.basis_entry.specs.declared.recipes.Recipe.TheVariants as kinds
use Rattle.basis_entry.specs.Entries.{BasisEntry, IsBasisEntry, HasMonomials as RecipeHasMonomials}
use Rattle.report_lines.specs.declared.lines.Made.{Made}
use Rattle.report_lines.specs.declared.lines.Made.TheVariants.{Gen, Sum}
use Rattle.report_lines.specs.declared.lines.Line.TheVariants as lines
use Rattle.report_lines.specs.Lines.{MadeIsOver, IsMadeOf as IsMadeOver, IsLineOf}
use Rattle.cert_checker.specs.declared.phase.Phase.TheVariants.{Entries}
use Rattle.cert_checker.specs.States.{AreNear, IsInTurn}
use Rattle.cert_checker.specs.Checking.{AreThere, IsMadeOf, signed}
use Rattle.cert_checker.proofs.Signs.{negative}
use Rattle.report_text.specs.Histories.{made_by}
use Rattle.report_text.specs.Reports.{IsSumOver, EntryIsOver}
use Rattle.report_acceptance.proofs.Taking.{Leads, one}
use Rattle.report_acceptance.proofs.Proving.{IsAt}

-- ---- the entry of a generator

signed_by : (negated : Bool) (g v : List Term) → MatchBool negated (sum_of v ≡ scale (negsuc 0) (sum_of g)) (v ≡ g) → (x : Place)
    → coefficient_at v x ≡ signed negated g x
signed_by true g v h x = negative g v h x
signed_by false g v h x = ap (λ w. coefficient_at w x) h

-- the next entry may be made so, and it is what it is made to be
pub record IsNextEntry (gens b : List (List Term)) (e : BasisEntry) : Type 0 where
  pub turn : IsInTurn gens b (made_by e.recipe)
  pub is : IsMadeOf gens b (made_by e.recipe) (coefficient_at e.vector)

pub generator_next : (p : Presented) (gens b : List (List Term)) (e : BasisEntry) → length b < length gens
    → IsOfGenerator p (length b) (vector_at gens (length b)) e → IsNextEntry gens b e
generator_next p gens b e turn is = record {
  turn = subst (λ (r : Recipe). IsInTurn gens b (made_by r)) (sym is.recipe) turn;
  is = subst (λ (r : Recipe). IsMadeOf gens b (made_by r) (coefficient_at e.vector)) (sym is.recipe)
      (signed_by (has_negative_lead (vector_at gens (length b))) (vector_at gens (length b)) e.vector is.vector);
}

-- ---- the sum of multiples of earlier entries

reach_near : (b : List (List Term)) (ss : List Step) → AllByRecursion (IsInReach b) ss → AreNear b ss
reach_near b [] h = tt
reach_near b (s ∷ ss) h = (λ there. h.0.room, reach_near b ss h.1)

reach_there : (b : List (List Term)) (ss : List Step) → AllByRecursion (IsInReach b) ss → AreThere b ss
reach_there b [] h = tt
reach_there b (s ∷ ss) h = (h.0.number, reach_there b ss h.1)

pub sum_next : (gens b : List (List Term)) (e : BasisEntry) → length gens ≤ length b → IsSumOver b e → IsNextEntry gens b e
sum_next gens b e turn is = record {
  turn = subst (λ (r : Recipe). IsInTurn gens b (made_by r)) (sym is.recipe) (turn, reach_near b is.steps is.value.reach);
  is = subst (λ (r : Recipe). IsMadeOf gens b (made_by r) (coefficient_at e.vector)) (sym is.recipe) (reach_there b is.steps is.value.reach, is.value.adds);
}

-- ---- the line

-- the entries that a recipe names can be numbered
abbrev pub HasSmallNumbers : Made → Type 0
HasSmallNumbers (Gen negated) = Unit {0}
HasSmallNumbers (Sum steps) = AllByRecursion (λ s. IsSmall s.by) steps

steps_read : (n : ℕ) (ss : List Step) → StepsAreOver n ss → AllByRecursion (λ s. IsMonomial s.t) ss → AllByRecursion (λ s. IsSmall s.by) ss → AreStepsOf n ss
steps_read n [] over mono small = tt
steps_read n (s ∷ ss) over mono small = (
  record {
    nonzero = over.0.nonzero;
    range = over.0.range;
    mono = record { mono = mono.0; over = over.0.mono };
    entry = small.0;
  },
  steps_read n ss over.1 mono.1 small.1,
)

-- the steps of a recipe have monomials
abbrev HasMonomials : Made → Type 0
HasMonomials (Gen negated) = Unit {0}
HasMonomials (Sum ss) = AllByRecursion (λ s. IsMonomial s.t) ss

made_monomials : (r : Recipe) → RecipeHasMonomials r → HasMonomials (made_by r)
made_monomials (kinds.Gen number negated) h = tt
made_monomials (kinds.Sum ss) h = h

made_read : (n : ℕ) (m : Made) → MadeIsOver n m → HasMonomials m → HasSmallNumbers m → IsMadeOver n m
made_read n (Gen negated) over mono small = tt
made_read n (Sum ss) over mono small = steps_read n ss over mono small

there_small : (b : List (List Term)) (ss : List Step) → length b < 2 ^ 32 → AreThere b ss → AllByRecursion (λ s. IsSmall s.by) ss
there_small b [] few h = tt
there_small b (s ∷ ss) few h = (omega (arith, few, h.0), there_small b ss few h.1)

next_small : (gens b : List (List Term)) (m : Made) (v : List Term) → length b < 2 ^ 32 → IsMadeOf gens b m (coefficient_at v) → HasSmallNumbers m
next_small gens b (Gen negated) v few h = tt
next_small gens b (Sum ss) v few h = there_small b ss few h.0

module _ (p : Presented) (gens : List (List Term)) where
  entry_line : (b : List (List Term)) (k : ℕ) (e : BasisEntry) → k ≡ length b → length b < 2 ^ 32 → IsBasisEntry e → EntryIsOver (length p.names) e
      → IsNextEntry gens b e
      → IsLineOf p (lines.Entry k (made_by e.recipe) e.vector)
  entry_line b k e at few known over next = (
    omega (arith, at, few),
    (
      made_read (length p.names) (made_by e.recipe) over.recipe (made_monomials e.recipe known.monomials)
          (next_small gens b (made_by e.recipe) e.vector few next.is),
      record { vector = known.entry.vector; over = over.vector },
    ),
  )

  pub entry_taken : (b : List (List Term)) (k : ℕ) (e : BasisEntry) → k ≡ length b → length b < 2 ^ 32 → IsBasisEntry e → EntryIsOver (length p.names) e
      → IsNextEntry gens b e
      → Leads p gens (IsAt Entries b) (lines.Entry k (made_by e.recipe) e.vector ∷ []) (IsAt Entries (b ++ e.vector ∷ []))
  entry_taken b k e at few known over next =
      one p gens (IsAt Entries b) (IsAt Entries (b ++ e.vector ∷ [])) (lines.Entry k (made_by e.recipe) e.vector) (entry_line b k e at few known over next)
      (λ s h. h.whole)
      (λ s h. (
        (h.phase, h.settled, at ∙ sym (ap length h.entries), subst (λ c. IsInTurn gens c (made_by e.recipe)) (sym h.entries) next.turn),
        (
          subst (λ c. IsMadeOf gens c (made_by e.recipe) (coefficient_at e.vector)) (sym h.entries) next.is,
          record { phase = h.phase; whole = h.whole; entries = ap (λ c. c ++ e.vector ∷ []) h.entries; settled = h.settled },
        ),
      ))
