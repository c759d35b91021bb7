-- Lawful logs: what a log may hold, entry by entry.
use Rattle.std.specs.List.{AllByRecursion}
use Rattle.std.specs.Prelude.{◌≡◌, ℕ, ◌<◌, ◌≤◌, List, length, take, slice_get, Some}
use Rattle.presentation.specs.Presented.{Presented}
use Rattle.outcomes.specs.declared.tasks.Task.{Task}
use Rattle.module_vec.specs.declared.places.Term.{Term}
use Rattle.module_vec.specs.Reducers.{Reduces}
use Rattle.strong_pairs.specs.Covering.{Divides}
use Rattle.strong_pairs.specs.Pairs.{lead_of, lead_at, IsPair}
use Rattle.basis_entry.specs.Base.{AreBase}
use Rattle.basis_entry.specs.Entries.{BasisEntry, IsBasisEntry, AreOf, vectors_of}
use Rattle.pair_work.specs.Recipes.{IsMadeFor}

-- the lead term d divides the lead term e: coefficient, monomial and component
abbrev pub DividesLead : Term → Term → Type 0
DividesLead d e = Reduces d e.at × Divides d.k e.k

-- the lead terms of the vectors divide the lead term e in no case
abbrev pub NoneDivides : List (List Term) → Term → Type 0
NoneDivides b e = (m : ℕ) → m < length b → DividesLead (lead_at b m) e → ⊥

-- e may stand behind entries with these vectors
pub record IsNextEntry (b : List (List Term)) (e : BasisEntry) : Type 0 where
  pub task : Task
  pub pair : IsPair b task.i task.j
  pub made : IsMadeFor b task e
  pub undivided : NoneDivides b (lead_of e.vector)

-- the entries of a log of the presentation: first those of the generators, `base` of them, and then one after another
pub record IsLawful (p : Presented) (base : ℕ) (es : List BasisEntry) : Type 0 where
  pub source : AreOf p es
  pub entries : AllByRecursion IsBasisEntry es
  pub within : base ≤ length es
  pub begins : AreBase p (take base es)
  pub later : (k : ℕ) (e : BasisEntry) → base ≤ k → slice_get es k ≡ Some e → IsNextEntry (vectors_of (take k es)) e
