-- The items of a log as lists in memory, and those below a front.
use Rattle.std.specs.Prelude.{ℕ, nat_lt, if◌then◌else◌, List, length, take, Option, None}
use Rattle.module_vec.specs.declared.places.Term.{Term}
use Rattle.basis_entry.specs.Entries.{BasisEntry, vectors_of}
use Rattle.basis_entry.specs.Seals.{Seal}

-- the entries, and the seal behind them if there is one
pub record ItemList : Type 0 where
  pub entries : List BasisEntry
  pub seal : Option Seal

-- the vectors of the entries below a front
abbrev pub vectors_below : List BasisEntry → ℕ → List (List Term)
vectors_below es front = vectors_of (take front es)

-- the seal, where it is below the front: it is the item behind the entries
abbrev pub seal_below : List BasisEntry → Option Seal → ℕ → Option Seal
seal_below es seal front = if nat_lt (length es) front then seal else None
