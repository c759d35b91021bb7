-- The steps that work makes are over the generators of the entries.
use Rattle.std.proofs.Common.{◌≡◌, ◌≢◌, ◌⊎◌, inl, inr, ℕ, zero, suc, Bool, true, false, ℤ, pos, negsuc, ◌+ℤ◌, ◌-ℤ◌, List, [], ◌∷◌, map, refl, sym, subst, ◌∙◌}
use Rattle.std.proofs.Common.{arith}
use borrow.Author.Differences.{ints}
use Rattle.std.proofs.Math.IntN.{+ℤ_idl}
use Rattle.std.specs.List.{AllByRecursion}
use Rattle.std.specs.Prelude.{Some, slice_get}
use Rattle.formal_sums.specs.FormalSum.{FormalSum, coefficient}
use Rattle.module_vec.specs.declared.places.Place.{Place}
use Rattle.module_vec.specs.declared.places.Term.{Term}
use Rattle.module_vec.specs.declared.steps.Step.{Step}
use Rattle.module_vec.specs.Chains.{IsNext, Runs, taken_at, after}
use Rattle.module_vec.specs.Modules.{vector_at}
use Rattle.module_vec.specs.Places.{same_place}
use Rattle.module_vec.specs.Reducers.{AreEntries}
use Rattle.module_vec.specs.Vectors.{Coefficients, coefficient_at, multiple}
use Rattle.module_vec.proofs.Order.{test}
use Rattle.outcomes.specs.declared.tasks.Task.{Task}
use Rattle.strong_pairs.specs.Pairs.{lead_of, lead_at, pair_place, ArePairSteps, both_at}
use Rattle.strong_pairs.specs.Results.{IsPairVector}
use Rattle.strong_pairs.proofs.Chaining.{due_nonzero}
use Rattle.vector_text.specs.Over.{MonoIsOver, PlaceIsOver, VectorIsOver}
use Rattle.vector_text.proofs.Over.{quotient_over, common_multiple_over}
use Rattle.basis_entry.specs.Entries.{MonosAreOver}
use Rattle.basis_entry.proofs.Over.{SumIsOver, multiple_over, vector_over}
use Rattle.pair_work.specs.Recipes.{turned}
use Rattle.pair_work.specs.Works.{IsCarriedOut, recipe_of, signed}

-- each place with a coefficient is over n generators
unfoldable pub IsSupported : ℕ → Coefficients → Type 0
IsSupported n f = (x : Place) → f x ≢ pos 0 → PlaceIsOver n x

-- ---- sums and differences
stands : (n : ℕ) (f : FormalSum Place) (x : Place) → SumIsOver n f → coefficient same_place f x ≢ pos 0 → PlaceIsOver n x
stands n [] x h some = absurd (some refl)
stands n (t ∷ f) x h some = by (same_place t.1 x) refl (stands n f x h.1) where
  by : (b : Bool) → same_place t.1 x ≡ b → (coefficient same_place f x ≢ pos 0 → PlaceIsOver n x) → PlaceIsOver n x
  by true e again = subst (PlaceIsOver n) (test.sound t.1 x e) h.0
  by false e again = again (λ z. some (rw e (+ℤ_idl (coefficient same_place f x) ∙ z)))

difference_some : (a b : ℤ) → a -ℤ b ≢ pos 0 → (a ≢ pos 0) ⊎ (b ≢ pos 0)
difference_some a b some = by a refl
  where
    by : (c : ℤ) → a ≡ c → (a ≢ pos 0) ⊎ (b ≢ pos 0)
    by (pos zero) e = inr (λ z. some (omega (arith, ints, e, z)))
    by (pos (suc k)) e = inl (λ z. absurd (omega (arith, ints, e, z)))
    by (negsuc k) e = inl (λ z. absurd (omega (arith, ints, e, z)))

sum_some : (a b : ℤ) → a +ℤ b ≢ pos 0 → (a ≢ pos 0) ⊎ (b ≢ pos 0)
sum_some a b some = by a refl
  where
    by : (c : ℤ) → a ≡ c → (a ≢ pos 0) ⊎ (b ≢ pos 0)
    by (pos zero) e = inr (λ z. some (omega (arith, ints, e, z)))
    by (pos (suc k)) e = inl (λ z. absurd (omega (arith, ints, e, z)))
    by (negsuc k) e = inl (λ z. absurd (omega (arith, ints, e, z)))

either : {A B : Type 0} (n : ℕ) (x : Place) → A ⊎ B → (A → PlaceIsOver n x) → (B → PlaceIsOver n x) → PlaceIsOver n x
either n x (inl a) f g = f a
either n x (inr b) f g = g b

lead_over : (n : ℕ) (v : List Term) → VectorIsOver n v → MonoIsOver n (lead_of v).at.m
lead_over n [] over k le = refl
lead_over n (t ∷ v) over k le = over.0.mono k le

module _ (n : ℕ) (b : List (List Term)) (entries : AreEntries b) (over : AllByRecursion (VectorIsOver n) b) where
  pub taken_supported : (s : Step) → MonoIsOver n s.t → IsSupported n (taken_at b s)
  unfolding IsSupported
  taken_supported s h x some = stands n (multiple s.q s.t (vector_at b s.by)) x (multiple_over n s.q s.t (vector_at b s.by) h (vector_over n b s.by over)) some

  -- ---- the two steps of a pair
  abbrev place_over : (i j : ℕ) → MonoIsOver n (pair_place b i j).m
  place_over i j = common_multiple_over n (lead_at b i).at.m (lead_at b j).at.m (lead_over n (vector_at b i) (vector_over n b i over))
      (lead_over n (vector_at b j) (vector_over n b j over))

  pub first_over : (t : Task) (first second : Step) → ArePairSteps t.kind b t.i t.j first second → MonoIsOver n first.t
  first_over t first second are =
      subst (MonoIsOver n) (sym are.first_monomial) (quotient_over n (pair_place b t.i t.j).m (lead_at b t.i).at.m (place_over t.i t.j)
      (lead_over n (vector_at b t.i) (vector_over n b t.i over)))

  pub second_over : (t : Task) (first second : Step) → ArePairSteps t.kind b t.i t.j first second → MonoIsOver n second.t
  second_over t first second are =
      subst (MonoIsOver n) (sym are.second_monomial) (quotient_over n (pair_place b t.i t.j).m (lead_at b t.j).at.m (place_over t.i t.j)
      (lead_over n (vector_at b t.j) (vector_over n b t.j over)))

  pub both_supported : (first second : Step) → MonoIsOver n first.t → MonoIsOver n second.t → IsSupported n (both_at b first second)
  unfolding IsSupported
  both_supported first second h k x some =
      either n x (sum_some (taken_at b first x) (taken_at b second x) some) (taken_supported first h x) (taken_supported second k x)

  pub pair_supported : (t : Task) (v : List Term) → IsPairVector t.kind b t.i t.j v → IsSupported n (coefficient_at v)
  unfolding IsSupported
  pair_supported t v pair x some =
      both_supported pair.first pair.second (first_over t pair.first pair.second pair.steps) (second_over t pair.first pair.second pair.steps) x
      (λ z. some (pair.made.1.is x ∙ z))

  -- ---- chains
  pub next_over : (f : Coefficients) (s : Step) → IsSupported n f → IsNext b f s → MonoIsOver n s.t
  unfolding IsSupported
  next_over f s supported next =
      let here : PlaceIsOver n next.place = supported next.place (due_nonzero b entries f s next) in
      let of : MonoIsOver n next.lead.at.m = reducer_over b s.by over next.due.reducer.entry in
      subst (MonoIsOver n) (sym next.monomial) (quotient_over n next.place.m next.lead.at.m here.mono of)
    where
      reducer_over : (c : List (List Term)) (i : ℕ) → AllByRecursion (VectorIsOver n) c → slice_get c i ≡ Some (next.lead ∷ next.others)
          → MonoIsOver n next.lead.at.m
      reducer_over [] i all is = absurd cc
      reducer_over (u ∷ c) zero all is = let e : u ≡ next.lead ∷ next.others = cc in (subst (VectorIsOver n) e all.0).0.mono
      reducer_over (u ∷ c) (suc i) all is = reducer_over c i all.1 is

  pub after_supported : (f : Coefficients) (s : Step) → IsSupported n f → MonoIsOver n s.t → IsSupported n (after b f s)
  unfolding IsSupported
  after_supported f s supported h x some =
      either n x (difference_some (f x) (taken_at b s x) some) (supported x) (taken_supported s h x)

  pub run_over : (f g : Coefficients) (ss : List Step) → IsSupported n f → Runs b f ss g → MonosAreOver n ss
  run_over f g [] supported run = tt
  run_over f g (s ∷ ss) supported run =
      let h : MonoIsOver n s.t = next_over f s supported run.0 in
      (h, run_over (after b f s) g ss (after_supported f s supported h) run.2)

  pub end_supported : (f g : Coefficients) (ss : List Step) → IsSupported n f → Runs b f ss g → IsSupported n g
  unfolding IsSupported
  end_supported f g [] supported run = λ x some. supported x (λ z. some (run x ∙ z))
  end_supported f g (s ∷ ss) supported run =
      end_supported (after b f s) g ss (after_supported f s supported (next_over f s supported run.0)) run.2

  -- ---- recipes
  turned_over : (ss : List Step) → MonosAreOver n ss → MonosAreOver n (map turned ss)
  turned_over [] h = tt
  turned_over (s ∷ ss) h = (h.0, turned_over ss h.1)

  signed_by : (negated : Bool) (ss : List Step) → MonosAreOver n ss → MonosAreOver n (signed negated ss)
  signed_by true ss h = turned_over ss h
  signed_by false ss h = h

  pub signed_over : (t : Task) (first second : Step) (steps : List Step) (w : List Term) → IsCarriedOut b t first second steps w → (negated : Bool)
      → MonosAreOver n (signed negated (recipe_of first second steps))
  signed_over t first second steps w done negated =
      signed_by negated (recipe_of first second steps) (
        first_over t first second done.pair_steps,
        (
          second_over t first second done.pair_steps,
          turned_over steps (run_over (coefficient_at done.vector) (coefficient_at w) steps (pair_supported t done.vector done.pair) done.rest.runs),
        ),
      )
