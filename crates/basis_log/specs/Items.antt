-- What the cells of a row hold: the items of a log.
use Rattle.std.specs.Arc.{arc_value}
use Rattle.std.specs.Prelude.{◌≡◌, List, [], ◌∷◌, Option, Some, None}
use Rattle.presentation.specs.Presented.{Presented}
use Rattle.basis_entry.specs.Entries.{BasisEntry, IsBasisEntry}
use Rattle.basis_entry.specs.Seals.{Seal, IsSeal}
use Rattle.basis_log.specs.declared.items.Item.{Item}
use Rattle.basis_log.specs.declared.items.Item.TheVariants as item

pub data LogItem : Type 0 where
  an_entry : BasisEntry → LogItem
  a_seal : Seal → LogItem

-- what an item shows
abbrev pub shown : Item → LogItem
shown (item.Entry e) = LogItem.an_entry (arc_value e)
shown (item.Seal s) = LogItem.a_seal (arc_value s)

-- the presentation that an item is of
abbrev pub item_source : LogItem → Presented
item_source (LogItem.an_entry e) = e.source
item_source (LogItem.a_seal s) = s.source

-- the entries among the items, in order
abbrev pub entries_of : List LogItem → List BasisEntry
entries_of [] = []
entries_of (LogItem.an_entry e ∷ xs) = e ∷ entries_of xs
entries_of (LogItem.a_seal s ∷ xs) = entries_of xs

-- the first seal among the items
abbrev pub seal_of : List LogItem → Option Seal
seal_of [] = None
seal_of (LogItem.an_entry e ∷ xs) = seal_of xs
seal_of (LogItem.a_seal s ∷ xs) = Some s

-- what holds of every item
abbrev pub IsItem : LogItem → Type 0
IsItem (LogItem.an_entry e) = IsBasisEntry e
IsItem (LogItem.a_seal s) = IsSeal s

-- items of this presentation, of which none comes after a seal
abbrev pub AreItems : Presented → List LogItem → Type 0
AreItems p [] = Unit {0}
AreItems p (LogItem.an_entry e ∷ xs) = (e.source ≡ p) × IsBasisEntry e × AreItems p xs
AreItems p (LogItem.a_seal s ∷ xs) = (s.source ≡ p) × IsSeal s × (xs ≡ [])

pub record AreSomeItems (xs : List LogItem) : Type 0 where
  pub source : Presented
  pub items : AreItems source xs
