-- Which entries of a report its proofs use.
use Rattle.std.specs.Prelude.{◌≡◌, ℕ, ◌<◌, List, [], length, slice_get, Some}
use Rattle.module_vec.specs.declared.steps.Step.{Step}
use Rattle.basis_entry.specs.declared.recipes.Recipe.{Recipe}
use Rattle.basis_entry.specs.declared.recipes.Recipe.TheVariants.{Gen, Sum}
use Rattle.report_reading.specs.declared.entry.EntryData.{EntryData}
use Rattle.report_reading.specs.declared.replies.ReplyData.{ReplyData}
use Rattle.report_reading.specs.declared.data.ReportData.{ReportData}

-- some step names entry k
pub record Name (steps : List Step) (k : ℕ) : Type 0 where
  pub place : ℕ
  pub step : Step
  pub is : slice_get steps place ≡ Some step
  pub by : step.by ≡ k

-- the steps of an entry's recipe; a generator has none
abbrev pub steps_in : Recipe → List Step
steps_in (Gen number negated) = []
steps_in (Sum steps) = steps

-- a proof of one of the replies names entry k
pub record NamedInProof (rs : List ReplyData) (k : ℕ) : Type 0 where
  pub place : ℕ
  pub reply : ReplyData
  pub subject : ℕ
  pub steps : List Step
  pub replied : slice_get rs place ≡ Some reply
  pub shown : slice_get reply.proofs subject ≡ Some steps
  pub names : Name steps k

-- The least set that holds each number of the start, and each entry named in the recipe of a member
pub data IsNeeded (Start : ℕ → Type 0) (es : List EntryData) : ℕ → Type 0 where
  start : (k : ℕ) → Start k → IsNeeded Start es k
  named : (j k : ℕ) (e : EntryData) → IsNeeded Start es j → slice_get es j ≡ Some e → Name (steps_in e.recipe) k
      → IsNeeded Start es k

-- so the used entries are the least set that holds each entry named in a proof, and each named in the recipe of a
-- member
abbrev pub IsUsed : ReportData → ℕ → Type 0
IsUsed d k = IsNeeded (NamedInProof d.replies) d.entries k

-- steps name entries that are there, recipes lower ones, and each entry has its number in the history
pub record CanBeTrimmed (d : ReportData) : Type 0 where
  pub from : length d.from ≡ length d.entries
  pub proofs : (k : ℕ) → NamedInProof d.replies k → k < length d.entries
  pub recipes : (j k : ℕ) (e : EntryData) → slice_get d.entries j ≡ Some e → Name (steps_in e.recipe) k → k < j
