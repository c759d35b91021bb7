-- How the list of a seat grows, and which leads an index beside it has.
use Rattle.std.specs.Prelude.{◌≡◌, List, length, take}
use mathlib.Core.List.{IsPrefix}
use Rattle.module_vec.specs.declared.places.Term.{Term}
use Rattle.reducer_index.specs.Leads.{AreLeads}
use Rattle.basis_entry.specs.Entries.{vectors_of}
use Rattle.basis_log.specs.Items.{LogItem, entries_of}
use Rattle.basis_log.specs.Seats.{Seen}

-- the seat is of the same row, and its old list begins the new one
pub record HasGrown (old new : Seen) : Type 0 where
  pub row : new.row ≡ old.row
  pub items : IsPrefix old.items new.items

-- the leads of the first entries among the items
pub record AreFirstLeads (xs : List LogItem) (leads : List Term) : Type 0 where
  pub are : AreLeads (take (length leads) (vectors_of (entries_of xs))) leads
