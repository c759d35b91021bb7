-- A row as contracts see it.
use Rattle.std.specs.List.{AllByRecursion}
use Rattle.std.specs.Prelude.{ℕ, ◌+◌, ◌*◌, ◌<◌, ◌≤◌, ◌^◌, List, [], ◌∷◌, length}
use Rattle.presentation.specs.Presented.{Presented, IsPresented}
use Rattle.basis_entry.specs.Base.{AreBase}
use Rattle.basis_entry.specs.Entries.{BasisEntry, IsBasisEntry, AreOf}
use Rattle.basis_log.specs.declared.TheConstants.{SEGMENT}

-- the generator entries, how many cells come after them, and the names of the directory's cells
pub record Rowed : Type 0 where
  pub base : List BasisEntry
  pub cells : ℕ
  pub directory : List ℕ

-- the presentation of the first entry. A row has one
abbrev pub source_of : List BasisEntry → Presented
source_of [] = record { names = []; relators = []; modulus = 0 }
source_of (e ∷ es) = e.source

-- the presentation of a row
abbrev pub row_source : Rowed → Presented
row_source r = source_of r.base

-- the generator entries of some presentation
pub record AreBaseOfSome (es : List BasisEntry) : Type 0 where
  pub source : Presented
  pub presented : IsPresented source
  pub base : AreBase source es

-- what holds of every row
pub record IsRow (r : Rowed) : Type 0 where
  pub base : AreBase (row_source r) r.base
  pub some : 0 < length r.base
  pub source : AreOf (row_source r) r.base
  pub entries : AllByRecursion IsBasisEntry r.base
  pub few : length r.base + r.cells < 2 ^ 32
  pub directory : r.cells ≤ SEGMENT * length r.directory
