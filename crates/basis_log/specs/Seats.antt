-- A seat as contracts see it.
use Rattle.std.specs.Prelude.{ℕ, ◌-◌, ◌%◌, Bool, List, map, ◌++◌, length, ◌≤◌}
use mathlib.Core.List.{IsPrefix}
use Rattle.basis_entry.specs.Entries.{BasisEntry}
use Rattle.basis_log.specs.declared.TheConstants.{SEGMENT}
use Rattle.basis_log.specs.declared.items.Item.{Item}
use Rattle.basis_log.specs.Items.{LogItem, shown, AreItems}
use Rattle.basis_log.specs.Places.{Placed, cells_of}
use Rattle.basis_log.specs.Rows.{Rowed, IsRow, row_source}
use Rattle.basis_log.specs.Sights.{Sighted, cells_in, values_in}

-- which row a seat is of, the items that it has seen, and whether it has a spare segment
pub record Seen : Type 0 where
  pub row : Rowed
  pub items : List LogItem
  pub spare : Bool

-- the items after the generator entries
abbrev pub shown_in : List (Sighted Item) → List LogItem
shown_in ss = map shown (values_in ss)

-- the items of a seat: the generator entries, and what was seen in the cells
abbrev pub items_of : List BasisEntry → List LogItem → List LogItem
items_of base xs = map LogItem.an_entry base ++ xs

-- how many cells the seat has an item of
abbrev pub taken : Seen → ℕ
taken s = length s.items - length s.row.base

-- how many items the seat has of the segment in which its next cell stands
abbrev pub in_segment : Seen → ℕ
in_segment s = taken s % SEGMENT

-- what holds of the fields of every seat: the items stand in the row's first cells, in order
pub record IsSeat (places : Placed) (ss : List (Sighted Item)) : Type 0 where
  pub row : IsRow places.row
  pub cells : IsPrefix (cells_in ss) (cells_of places.segments)
  pub few : length ss ≤ places.row.cells
  pub items : AreItems (row_source places.row) (shown_in ss)
