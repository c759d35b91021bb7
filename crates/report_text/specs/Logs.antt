-- The items of a log with their presentation.
use Rattle.std.specs.Prelude.{List, Option}
use Rattle.presentation.specs.Presented.{Presented}
use Rattle.basis_entry.specs.Entries.{BasisEntry}
use Rattle.basis_entry.specs.Seals.{Seal}

-- a presentation, entries, and the seal behind them if there is one
pub record LogItems : Type 0 where
  pub pres : Presented
  pub entries : List BasisEntry
  pub seal : Option Seal
