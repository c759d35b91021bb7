-- The trimming of a report.
use Rattle.std.specs.Prelude.{◌≡◌, ◌↔◌, ℕ, ◌<◌, List, [], ◌∷◌, slice_get, Some}
use Rattle.module_vec.specs.declared.steps.Step.{Step}
use Rattle.basis_entry.specs.declared.recipes.Recipe.{Recipe}
use Rattle.basis_entry.specs.declared.recipes.Recipe.TheVariants.{Gen, Sum}
use Rattle.report_reading.specs.declared.entry.EntryData.{EntryData}
use Rattle.report_reading.specs.declared.replies.ReplyData.{ReplyData}
use Rattle.report_reading.specs.declared.data.ReportData.{ReportData}
use Rattle.report_trimming.specs.Used.{IsUsed}

-- each element of the one list is related to that of the other at its place, and there are as many
abbrev pub Pairwise : {X Y : Type 0} → (X → Y → Type 0) → List X → List Y → Type 0
Pairwise R [] [] = Unit {0}
Pairwise R [] (y ∷ ys) = ⊥
Pairwise R (x ∷ xs) [] = ⊥
Pairwise R (x ∷ xs) (y ∷ ys) = R x y × Pairwise R xs ys

-- each number is above those before it
abbrev pub IsRising : List ℕ → Type 0
IsRising ks = (i j a b : ℕ) → i < j → slice_get ks i ≡ Some a → slice_get ks j ≡ Some b → a < b

-- number k is among those that are kept
abbrev pub IsKept : List ℕ → ℕ → Type 0
IsKept kept k = (i : ℕ) × (slice_get kept i ≡ Some k)

-- ---- renamed steps: each names its entry by the place among those that are kept

pub record IsStepRenamed (kept : List ℕ) (old new : Step) : Type 0 where
  pub q : new.q ≡ old.q
  pub t : new.t ≡ old.t
  pub by : slice_get kept new.by ≡ Some old.by

abbrev pub AreStepsRenamed : List ℕ → List Step → List Step → Type 0
AreStepsRenamed kept ss ts = Pairwise (IsStepRenamed kept) ss ts

-- a generator keeps its number
abbrev pub IsRecipeRenamed : List ℕ → Recipe → Recipe → Type 0
IsRecipeRenamed kept (Gen number negated) r = r ≡ Gen number negated
IsRecipeRenamed kept (Sum steps) r = (renamed : List Step) × (r ≡ Sum renamed) × AreStepsRenamed kept steps renamed

pub record IsEntryRenamed (kept : List ℕ) (old new : EntryData) : Type 0 where
  pub recipe : IsRecipeRenamed kept old.recipe new.recipe
  pub vector : new.vector ≡ old.vector

pub record IsReplyRenamed (kept : List ℕ) (old new : ReplyData) : Type 0 where
  pub session : new.session ≡ old.session
  pub question : new.question ≡ old.question
  pub live : new.live ≡ old.live
  pub front : new.front ≡ old.front
  pub verdict : new.verdict ≡ old.verdict
  pub proofs : Pairwise (AreStepsRenamed kept) old.proofs new.proofs

-- ---- the report

-- number k of the entries, renamed
pub record IsKeptEntry (es : List EntryData) (kept : List ℕ) (k : ℕ) (f : EntryData) : Type 0 where
  pub entry : EntryData
  pub is : slice_get es k ≡ Some entry
  pub renamed : IsEntryRenamed kept entry f

-- what is left of a report where the used entries alone are kept, in their order: each keeps its number in the history,
-- and the steps are renamed; the number of items, all replies and the end are as they were
pub record IsTrimming (d t : ReportData) : Type 0 where
  pub kept : List ℕ
  pub rising : IsRising kept
  pub used : (k : ℕ) → IsKept kept k ↔ IsUsed d k
  pub version : t.version ≡ 2
  pub items : t.items ≡ d.items
  pub from : Pairwise (λ k f. slice_get d.from k ≡ Some f) kept t.from
  pub entries : Pairwise (IsKeptEntry d.entries kept) kept t.entries
  pub replies : Pairwise (IsReplyRenamed kept) d.replies t.replies
  pub end : t.end ≡ d.end
