-- Lists that begin a file, and how they grow.
use Rattle.std.proofs.Common.{◌≡◌, ℕ, ◌<◌, ◌≤◌, List, [], ◌∷◌, ◌++◌, length, take, Some, inl, inr, refl, sym, ap, subst, ◌∙◌, arith, length-append}
use Rattle.std.proofs.lemmas.List.{length-take-le}
use Rattle.std.proofs.lemmas.List.Sums.{sum_by_push}
use Rattle.std.proofs.lemmas.Option.{slice_get_within}
use Rattle.std.specs.List.{slice_get}
use Rattle.presentation.specs.Presented.{Presented, IsPresented}
use Rattle.module_vec.specs.declared.places.Term.{Term}
use Rattle.module_vec.specs.Modules.{vector_at}
use Rattle.fox_calculus.specs.Generators.{AreGenerators}
use Rattle.reduce_cofactor.proofs.Resting.{get_take}
use Rattle.strong_pairs.proofs.Coverage.{order_of}
use Rattle.basis_entry.specs.declared.recipes.Recipe.{Recipe}
use Rattle.basis_entry.specs.declared.recipes.Recipe.TheVariants.{Gen, Sum}
use Rattle.basis_entry.specs.Base.{IsOfGenerator}
use Rattle.basis_entry.specs.Entries.{BasisEntry, IsBasisEntry, vectors_of}
use Rattle.basis_entry.proofs.Generators.{few_generators}
use Rattle.pair_work.specs.Outcomes.{recipe_steps}
use Rattle.pair_work.proofs.Reading.{get_back, get_end, take_left, take_whole, all_push}
use Rattle.report_lines.specs.declared.lines.Made.{Made}
use Rattle.report_text.specs.Histories.{made_by}
use Rattle.report_text.specs.Reports.{IsSumOver, EntryIsOver}
use Rattle.report_text.proofs.Lists.{same_item}
use Rattle.saved_basis.specs.Files.{IsBeginning, IsSaved}
use Rattle.saved_basis.specs.Lines.{made_steps, MayStand}
use Rattle.report_acceptance.proofs.Generating.{one_generating}
use Rattle.saved_basis.specs.Readers.{ReadSoFar, IsReading, IsNextEntry, FitsIn}

pub nothing : (p : Presented) (gens : List (List Term)) → IsBeginning p gens []
nothing p gens = record {
  source = tt;
  entries = tt;
  over = tt;
  begins = λ k e lt at. absurd (omega (arith, slice_get_within [] k e at));
  later = λ k e le at. absurd (omega (arith, slice_get_within [] k e at));
  within = record { entries = omega arith; terms = omega arith; steps = omega arith };
}

pub same_steps : (r : Recipe) → recipe_steps r ≡ made_steps (made_by r)
same_steps (Gen number negated) = refl
same_steps (Sum steps) = refl

module _ (es : List BasisEntry) (e : BasisEntry) where
  pub first_taken : take (length es) (es ++ e ∷ []) ≡ es
  first_taken = take_left es (e ∷ []) (length es) (omega arith) ∙ take_whole es

  -- what holds at each place of the longer list
  pub at_each : (P : ℕ → List BasisEntry → BasisEntry → Type 0) → ((k : ℕ) (x : BasisEntry) → k < length es → slice_get es k ≡ Some x → P k (take k es) x)
      → P (length es) es e → (k : ℕ) (x : BasisEntry) → slice_get (es ++ e ∷ []) k ≡ Some x → P k (take k (es ++ e ∷ [])) x
  at_each P old new k x at = elim (order_of k (length es)) [
    | inl lt ↦ subst (λ (xs : List BasisEntry). P k xs x) (sym (take_left es (e ∷ []) k (omega (arith, lt)))) (old k x lt (get_back es (e ∷ []) k x lt at))
    | inr q ↦ elim q [
      | inl eq ↦
          let there : slice_get (es ++ e ∷ []) k ≡ Some e = subst (λ (m : ℕ). slice_get (es ++ e ∷ []) m ≡ Some e) (sym eq) (get_end es e) in
          let same : x ≡ e = same_item (es ++ e ∷ []) k x e at there in
          let whole : take k (es ++ e ∷ []) ≡ es = ap (λ m. take m (es ++ e ∷ [])) eq ∙ first_taken in
          subst (λ (y : BasisEntry). P k (take k (es ++ e ∷ [])) y) (sym same)
          (subst (λ (xs : List BasisEntry). P k xs e) (sym whole) (subst (λ (m : ℕ). P m es e) (sym eq) new))
      | inr gt ↦ absurd (omega (arith, gt, slice_get_within (es ++ e ∷ []) k x at, length-append es (e ∷ [])))
    ]
  ]

module _ (r : ReadSoFar) (gens : List (List Term)) (made : Made) (v : List Term) (e : BasisEntry) (old : IsBeginning r.source gens r.entries)
    (next : IsNextEntry r gens made v e) (may : MayStand gens r.entries made v) where
  es : List BasisEntry
  es = r.entries

  pub one_more : IsBeginning r.source gens (r.entries ++ e ∷ [])
  one_more =
      let w = old.within in
      let n = length-append r.entries (e ∷ []) in
      let t = sum_by_push (λ (x : BasisEntry). length x.vector) r.entries e in
      let s = sum_by_push (λ (x : BasisEntry). recipe_steps x.recipe) r.entries e in
      let long : length e.vector ≡ length v = ap length next.vector in
      let many : recipe_steps e.recipe ≡ made_steps made = same_steps e.recipe ∙ ap made_steps next.recipe in
      record {
        source = all_push (λ (x : BasisEntry). x.source ≡ r.source) r.entries e old.source next.source;
        entries = all_push IsBasisEntry r.entries e old.entries next.entry;
        over = all_push (EntryIsOver (length r.source.names)) r.entries e old.over next.over;
        begins = λ k x lt at. at_each r.entries e (λ m xs y. m < length gens → IsOfGenerator r.source m (vector_at gens m) y)
            (λ m y within there low. old.begins m y low there) next.begins k x at lt;
        later = λ k x le at. at_each r.entries e (λ m xs y. length gens ≤ m → IsSumOver (vectors_of xs) y)
            (λ m y within there high. old.later m y high there) next.later k x at le;
        within = record {
          entries = omega (arith, n, may.entries);
          terms = omega (arith, t, long, may.terms);
          steps = omega (arith, s, many, may.steps);
        };
      }

pub saved : (p : Presented) (gens : List (List Term)) (es : List BasisEntry) → IsPresented p → AreGenerators p gens → IsBeginning p gens es
    → length gens ≤ length es → IsSaved p es
saved p gens es known are b all = record {
  base = length gens;
  log = record {
    source = b.source;
    within = all;
    begins = record {
      gens = gens;
      generators = are;
      count = length-take-le (length gens) es all;
      few = omega (arith, few_generators p gens known are, length-take-le (length gens) es all);
      each = λ i e at. let w = slice_get_within (take (length gens) es) i e at in
          b.begins i e (omega (arith, w, length-take-le (length gens) es all)) (get_take (length gens) i es e at);
    };
    later = b.later;
  };
  entries = b.entries;
  over = b.over;
  within = b.within;
}

-- what is read stays so with an entry that fits in
pub with_reading : (r : ReadSoFar) (e : BasisEntry) → IsReading r → FitsIn r e → IsReading (record r { entries = r.entries ++ e ∷ [] })
with_reading r e reading fits = record {
  base = reading.base;
  beginning = subst (λ g. IsBeginning r.source g (r.entries ++ e ∷ []))
      (one_generating r.source fits.0 reading.base.gens fits.1 reading.base.generators) fits.2;
}
