-- What a scan of a list of entries has found so far.
use Rattle.std.specs.Prelude.{◌≡◌, ℕ, List, Option, Some, None}
use Rattle.module_vec.specs.declared.places.Place.{Place}
use Rattle.module_vec.specs.declared.places.Term.{Term}
use Rattle.module_vec.specs.declared.lists.Candidate.{Candidate}
use Rattle.module_vec.specs.Reducers.{Entry, Reduces, IsReducer}

-- the reducer of p among b, with its lead coefficient
abbrev pub FindsCandidate : List (List Term) → Place → Option Candidate → Type 0
FindsCandidate b p None = (i : ℕ) (e : Term) (g : List Term) → Entry b i e g → Reduces e p → ⊥
FindsCandidate b p (Some c) = (e : Term) × (g : List Term) × IsReducer b p c.number e g × (c.coefficient ≡ e.k)
