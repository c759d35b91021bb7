-- Legal reports can be written.
use Rattle.std.proofs.Common.{◌≡◌, ◌≢◌, ℕ, zero, suc, ◌+◌, ◌<◌, ◌≤◌, ◌^◌, ◌⊎◌, inl, inr, Bool, pos, List, [], ◌∷◌, length, take, Option, Some, slice_get, sym}
use Rattle.std.proofs.Common.{ap, subst, ◌∙◌, arith, refl}
use Rattle.std.specs.List.{AllByRecursion}
use Rattle.std.specs.Prelude.{IsSome, ◌↔◌}
use Rattle.presentation.specs.Presented.{Presented}
use Rattle.outcomes.specs.declared.ends.End.{End}
use Rattle.outcomes.specs.declared.ends.End.TheVariants.{Sealed, Stopped, Full, Spent}
use Rattle.outcomes.specs.declared.tasks.Task.{Task}
use Rattle.module_vec.specs.declared.faults.Stop.{Stop}
use Rattle.module_vec.specs.declared.faults.Stop.TheVariants.{Wide, Long, Deep, Steep}
use Rattle.module_vec.specs.declared.steps.Step.{Step}
use Rattle.module_vec.specs.Vectors.{InRange}
use Rattle.module_vec.specs.Modules.{vector_at}
use Rattle.module_vec.specs.Reducers.{AreEntries}
use Rattle.step_text.specs.Over.{StepsAreOver}
use Rattle.vector_text.specs.Over.{VectorIsOver}
use Rattle.session_text.specs.declared.question.Question.{Question}
use Rattle.report_lines.specs.Lines.{EndIsOver, StopIsOver, MadeIsOver}
use Rattle.basis_entry.specs.declared.recipes.Recipe.{Recipe}
use Rattle.basis_entry.specs.declared.recipes.Recipe.TheVariants.{Gen, Sum}
use Rattle.basis_entry.specs.Entries.{BasisEntry, IsBasisEntry, RecipeIsOver, MonosAreOver, vectors_of}
use Rattle.basis_entry.specs.Base.{has_negative_lead}
use Rattle.basis_entry.specs.Seals.{Seal, item_count}
use Rattle.pair_book.specs.Logs.{IsLawful}
use Rattle.pair_book.specs.Works.{Stops}
use Rattle.pair_book.specs.declared.limits.Limits.{Limits}
use Rattle.pair_book.proofs.OverStops.{stop_over}
use Rattle.session_core.specs.declared.kept.Kept.{Kept}
use Rattle.session_core.specs.Sessions.{SessionState, AreRising}
use Rattle.report_text.specs.Histories.{made_by}
use Rattle.report_text.specs.Reports.{Reported, IsReportable, IsRecord, IsSumOver, EntryIsOver, IsReplied, AreFrom}
use Rattle.report_text.proofs.Lists.{all_first}
use Rattle.legal_report.specs.Legal.{IsLegal, IsLegalSession, seal_at}
use Rattle.completion_solo.specs.Ends.{Ends}
use Rattle.legal_report.proofs.Fronts.{rising_low}
use Rattle.basis_entry.proofs.Vectors.{are_entries}
use Rattle.legal_report.proofs.Ranges.{steps_long, steps_in_range}

-- ---- lists

-- what holds at each place holds of all
pub all_from : {A : Type 0} (P : A → Type 0) (xs : List A) → ((i : ℕ) (x : A) → slice_get xs i ≡ Some x → P x) → AllByRecursion P xs
all_from P [] f = tt
all_from P (x ∷ xs) f = (f 0 x refl, all_from P xs (λ i y at. f (suc i) y at))

pub all_at : {A : Type 0} (P : A → Type 0) (xs : List A) (i : ℕ) (x : A) → AllByRecursion P xs → slice_get xs i ≡ Some x → P x
all_at P [] i x all at = absurd (cc)
all_at P (a ∷ xs) zero x all at = let e : a ≡ x = cc in subst P e all.0
all_at P (a ∷ xs) (suc i) x all at = all_at P xs i x all.1 at

pub stands : {A B : Type 0} (xs : List A) (ys : List B) (i : ℕ) (x : A) → slice_get xs i ≡ Some x → length xs ≡ length ys → (y : B) × (slice_get ys i ≡ Some y)
stands [] ys i x at same = absurd (cc)
stands (a ∷ xs) [] i x at same = absurd (omega (arith, same))
stands (a ∷ xs) (y ∷ ys) zero x at same = (y, refl)
stands (a ∷ xs) (y ∷ ys) (suc i) x at same = stands xs ys i x at (omega (arith, same))

-- ---- entries

made_over : (n : ℕ) (e : BasisEntry) (r : Recipe) → e.recipe ≡ r → RecipeIsOver n e.recipe
    → ((steps : List Step) → e.recipe ≡ Sum steps → AllByRecursion (λ s. (s.q ≢ pos 0) × InRange s.q) steps)
    → MadeIsOver n (made_by e.recipe)
made_over n e (Gen number negated) is over known = subst (λ (r : Recipe). MadeIsOver n (made_by r)) (sym is) tt
made_over n e (Sum steps) is over known =
    subst (λ (r : Recipe). MadeIsOver n (made_by r)) (sym is) (by steps (known steps is) (subst (RecipeIsOver n) is over))
  where
    by : (ss : List Step) → AllByRecursion (λ (s : Step). (s.q ≢ pos 0) × InRange s.q) ss → MonosAreOver n ss → StepsAreOver n ss
    by [] known monos = tt
    by (s ∷ ss) known monos = (record { nonzero = known.0.0; range = known.0.1; mono = monos.0 }, by ss known.1 monos.1)

module _ (p : Presented) (base : ℕ) (es : List BasisEntry) (lawful : IsLawful p base es) where
  sums : (k : ℕ) (e : BasisEntry) → base ≤ k → slice_get es k ≡ Some e → IsSumOver (vectors_of (take k es)) e
  sums k e low at =
      let next = lawful.later k e low at in
      record { steps = next.made.steps; recipe = next.made.recipe; value = next.made.value }

  pub is_record : IsRecord p base es
  is_record = record { source = lawful.source; within = lawful.within; begins = lawful.begins; later = sums }

  both : (ss : List Step) → AllByRecursion (λ (s : Step). s.q ≢ pos 0) ss → AllByRecursion (λ (s : Step). InRange s.q) ss
      → AllByRecursion (λ (s : Step). (s.q ≢ pos 0) × InRange s.q) ss
  both [] h i = tt
  both (s ∷ ss) h i = ((h.0, i.0), both ss h.1 i.1)

  same_sum : (xs ys : List Step) → Sum xs ≡ Sum ys → xs ≡ ys
  same_sum xs ys e = cc

  later_known : (k : ℕ) (e : BasisEntry) → base ≤ k → slice_get es k ≡ Some e → (steps : List Step) → e.recipe ≡ Sum steps
      → AllByRecursion (λ s. (s.q ≢ pos 0) × InRange s.q) steps
  later_known k e low at steps is =
      let next = lawful.later k e low at in
      let entries : AreEntries (vectors_of (take k es)) = are_entries (take k es) (all_first IsBasisEntry k es lawful.entries) in
      let long = steps_long next.task.kind (vectors_of (take k es)) next.task.i next.task.j next.made.steps entries next.pair next.made.from in
      subst (AllByRecursion (λ s. (s.q ≢ pos 0) × InRange s.q)) (same_sum next.made.steps steps (sym next.made.recipe ∙ is))
      (both next.made.steps next.made.value.nonzero (steps_in_range (vectors_of (take k es)) next.made.steps e.vector entries long next.made.value))

  take_get : {A : Type 0} (n k : ℕ) (xs : List A) (x : A) → k < n → slice_get xs k ≡ Some x → slice_get (take n xs) k ≡ Some x
  take_get zero k xs x less at = absurd (omega (arith, less))
  take_get (suc n) k [] x less at = absurd (cc)
  take_get (suc n) zero (a ∷ xs) x less at = at
  take_get (suc n) (suc k) (a ∷ xs) x less at = take_get n k xs x (omega (arith, less)) at

  le_or_less : (m k : ℕ) → (m ≤ k) ⊎ (k < m)
  le_or_less zero k = inl (omega arith)
  le_or_less (suc m) zero = inr (omega arith)
  le_or_less (suc m) (suc k) = elim (le_or_less m k) [
    | inl le ↦ inl (omega (arith, le))
    | inr lt ↦ inr (omega (arith, lt))
  ]

  not_sum : (steps : List Step) (number : ℕ) (negated : Bool) → Sum steps ≡ Gen number negated → ⊥
  not_sum steps number negated e = cc

  known_by : (k : ℕ) (e : BasisEntry) → (base ≤ k) ⊎ (k < base) → slice_get es k ≡ Some e → (steps : List Step) → e.recipe ≡ Sum steps
      → AllByRecursion (λ s. (s.q ≢ pos 0) × InRange s.q) steps
  known_by k e (inl low) at steps is = later_known k e low at steps is
  known_by k e (inr less) at steps is =
      let own = lawful.begins.each k e (take_get base k es e less at) in
      absurd (not_sum steps k (has_negative_lead (vector_at lawful.begins.gens k)) (sym is ∙ own.recipe))

  entry_over : (k : ℕ) (e : BasisEntry) → slice_get es k ≡ Some e → EntryIsOver (length p.names) e
  entry_over k e at =
      let is : IsBasisEntry e = all_at IsBasisEntry es k e lawful.entries at in
      let of : e.source ≡ p = all_at (λ (x : BasisEntry). x.source ≡ p) es k e lawful.source at in
      let n : length e.source.names ≡ length p.names = ap (λ (x : Presented). length x.names) of in
      record {
        vector = subst (λ (m : ℕ). VectorIsOver m e.vector) n is.over;
        recipe = made_over (length p.names) e e.recipe refl (subst (λ (m : ℕ). RecipeIsOver m e.recipe) n is.recipe) (known_by k e (le_or_less base k) at);
      }

  pub entries_over : AllByRecursion (EntryIsOver (length p.names)) es
  entries_over = all_from (EntryIsOver (length p.names)) es entry_over

  pub stop_is_over : (t : Task) (stop : Stop) → Stops (vectors_of es) t stop → StopIsOver (length p.names) stop
  stop_is_over t (Wide place step) stops = stop_over p es t place step lawful.entries lawful.source stops
  stop_is_over t (Long terms step) stops = tt
  stop_is_over t Deep stops = tt
  stop_is_over t (Steep degree) stops = tt

-- ---- the whole report

module _ (p : Presented) (limits : Limits) (questions : List (List Question)) (r : Reported) (is : IsLegal p limits questions r) where
  here : IsLawful r.pres is.base r.entries
  here = subst (λ (x : Presented). IsLawful x is.base r.entries) (sym is.pres) is.lawful

  end_is_over : (end : End) → Ends p limits r.entries end → EndIsOver (length p.names) end
  end_is_over Sealed ends = tt
  end_is_over (Stopped t stop) ends = stop_is_over p is.base r.entries is.lawful t stop ends.stops
  end_is_over (Full m c) ends = tt
  end_is_over (Spent c t) ends = tt

  sealed_by : (end : End) → IsSome (seal_at p r.entries end) ↔ (end ≡ Sealed)
  sealed_by Sealed = (λ h. refl, λ h. refl)
  sealed_by (Stopped t stop) = (λ h. absurd (cc), λ h. absurd (cc))
  sealed_by (Full m c) = (λ h. absurd (cc), λ h. absurd (cc))
  sealed_by (Spent c t) = (λ h. absurd (cc), λ h. absurd (cc))

  legal_at : (i : ℕ) (s : SessionState) → slice_get r.sessions i ≡ Some s → (qs : List Question) × IsLegalSession p is.base r.entries r.seal (i + 1) qs s
  legal_at i s at = let own = stands r.sessions questions i s at is.count in (own.0, is.sessions i own.0 s own.1 at)

  rising_all : (least : ℕ) (ks : List Kept) → AreRising least ks → AllByRecursion (λ k. least ≤ k.front) ks
  rising_all least ks rising = all_from (λ (k : Kept). least ≤ k.front) ks (λ i k at. rising_low least ks i k rising at)

  pub reportable : limits.entries + 1 < 2 ^ 32 → IsReportable r
  reportable few = record {
    base = is.base;
    entries = is_record r.pres is.base r.entries here;
    few = let within : length r.entries ≤ limits.entries = is.within.entries in omega (arith, within, few);
    over = entries_over r.pres is.base r.entries here;
    end = subst (λ (x : Presented). EndIsOver (length x.names) r.end) (sym is.pres) (end_is_over r.end is.ends);
    sealed = subst (λ (z : Option Seal). IsSome z ↔ (r.end ≡ Sealed)) (sym is.seal) (sealed_by r.end);
    numbers = λ i s at. (legal_at i s at).1.number;
    fronts = all_from (AreFrom is.base) r.sessions (λ i s at. rising_all is.base s.kept (legal_at i s at).1.rising);
    replies = all_from (IsReplied r.pres r.entries r.seal) r.sessions (λ i s at.
        subst (λ (x : Presented). IsReplied x r.entries r.seal s) (sym is.pres) (legal_at i s at).1.replied);
  }
