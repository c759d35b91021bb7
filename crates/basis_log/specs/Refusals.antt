-- Why an item was not published.
use Rattle.std.specs.Prelude.{◌≡◌, ◌≢◌, ◌≤◌, ◌⊎◌, false, [], ◌∷◌, ◌++◌}
use Rattle.basis_log.specs.declared.items.Item.{Item}
use Rattle.basis_log.specs.declared.refusals.Refused.{Refused}
use Rattle.basis_log.specs.declared.refusals.Refused.TheVariants as refused
use Rattle.basis_log.specs.Items.{LogItem, shown, item_source}
use Rattle.basis_log.specs.Rows.{row_source}
use Rattle.basis_log.specs.Seats.{Seen, taken, in_segment}

-- the row has no cell after those that the seat has items of
abbrev pub IsAtEnd : Seen → Type 0
IsAtEnd s = s.row.cells ≤ taken s

-- the seat has neither a spare segment nor an item in the segment of its next cell
pub record LacksSegment (s : Seen) : Type 0 where
  pub spare : s.spare ≡ false
  pub first : in_segment s ≡ 0

-- what a refusal says of the item and of the seat before and after
abbrev pub SaysRefused : Refused → Item → Seen → Seen → Type 0
SaysRefused (refused.NoCell back) item old new = (back.value ≡ item) × (new ≡ old) × (IsAtEnd old ⊎ LacksSegment old)
SaysRefused refused.Held item old new = (x : LogItem) × (new.items ≡ old.items ++ x ∷ []) × (x ≢ shown item)
SaysRefused (refused.Foreign held) item old new =
    (new.items ≡ old.items) × (item_source (shown held.now) ≢ row_source old.row)
