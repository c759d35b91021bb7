-- Basis files: which entries one holds, and its text.
use Rattle.std.specs.List.{AllByRecursion}
use Rattle.std.specs.Prelude.{ℕ, ◌<◌, ◌≤◌, List, [], ◌∷◌, ◌++◌, length, sum_by, take, slice_get, Some, ◌≡◌, codes}
use Rattle.presentation.specs.Presented.{Presented}
use Rattle.module_vec.specs.declared.places.Term.{Term}
use Rattle.module_vec.specs.Modules.{vector_at}
use Rattle.report_lines.specs.Texts.{pres_line, lines_text}
use Rattle.basis_entry.specs.Base.{IsOfGenerator}
use Rattle.basis_entry.specs.Entries.{BasisEntry, IsBasisEntry, AreOf, vectors_of}
use Rattle.pair_work.specs.Outcomes.{recipe_steps}
use Rattle.report_text.specs.Histories.{entry_lines}
use Rattle.report_text.specs.Reports.{IsSumOver, IsRecord, EntryIsOver}
use Rattle.saved_basis.specs.declared.TheConstants.{ENTRIES, LOG_TERMS, LOG_STEPS}

-- ---- the entries

-- the terms and the recipe steps of all entries
abbrev pub terms_of : List BasisEntry → ℕ
terms_of es = sum_by (λ (e : BasisEntry). length e.vector) es

abbrev pub steps_of : List BasisEntry → ℕ
steps_of es = sum_by (λ (e : BasisEntry). recipe_steps e.recipe) es

-- the limits of every log
pub record AreWithin (es : List BasisEntry) : Type 0 where
  pub entries : length es ≤ ENTRIES
  pub terms : terms_of es ≤ LOG_TERMS
  pub steps : steps_of es ≤ LOG_STEPS

-- The first entries of a list: those of the generators of the presentation's module in their order, as far as it has
-- come, and then sums of multiples of entries before. Lead coefficients are positive
pub record IsBeginning (p : Presented) (gens : List (List Term)) (es : List BasisEntry) : Type 0 where
  pub source : AreOf p es
  pub entries : AllByRecursion IsBasisEntry es
  pub over : AllByRecursion (EntryIsOver (length p.names)) es
  pub begins : (k : ℕ) (e : BasisEntry) → k < length gens → slice_get es k ≡ Some e
      → IsOfGenerator p k (vector_at gens k) e
  pub later : (k : ℕ) (e : BasisEntry) → length gens ≤ k → slice_get es k ≡ Some e
      → IsSumOver (vectors_of (take k es)) e
  pub within : AreWithin es

-- The entries of a list that may be saved: those of all generators, and then sums of multiples of entries before
pub record IsSaved (p : Presented) (es : List BasisEntry) : Type 0 where
  pub base : ℕ
  pub log : IsRecord p base es
  pub entries : AllByRecursion IsBasisEntry es
  pub over : AllByRecursion (EntryIsOver (length p.names)) es
  pub within : AreWithin es

-- ---- the text

-- the first line
abbrev pub title : List ℕ
title = codes "metab basis 1"

-- the last line
abbrev pub last_line : List ℕ
last_line = codes "done"

-- the two lines at the head, and the lines of these entries, each with its end
abbrev pub begun_text : Presented → List BasisEntry → List ℕ
begun_text p es = title ++ 10 ∷ (pres_line p ++ 10 ∷ lines_text p (entry_lines 0 es))

-- the whole file
abbrev pub basis_text : Presented → List BasisEntry → List ℕ
basis_text p es = begun_text p es ++ (last_line ++ 10 ∷ [])
