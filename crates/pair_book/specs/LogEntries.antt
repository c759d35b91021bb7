-- The entries of a log in memory, with room for further ones.
use Rattle.std.specs.List.{AllByRecursion}
use Rattle.std.specs.Prelude.{◌≤◌, ℕ, List, map, length, sum_by, vec_capacity}
use Rattle.std.specs.Arc.{arc_value}
use Rattle.task_table.specs.declared.TheConstants.{ENTRIES}
use Rattle.basis_entry.specs.Entries.{BasisEntry, IsBasisEntry}
use Rattle.pair_book.specs.declared.log.Log.TheInside.{Inside}
use Rattle.pair_book.specs.Fellows.{component_at, AreLinked}
use Rattle.pair_work.specs.Outcomes.{recipe_steps}

-- for how many entries there is room, and the entries
pub record Logged : Type 0 where
  pub room : ℕ
  pub entries : List BasisEntry

pub record IsLogged (l : Logged) : Type 0 where
  pub entries : AllByRecursion IsBasisEntry l.entries
  pub within : length l.entries ≤ l.room
  pub most : l.room ≤ ENTRIES

abbrev pub logged : Inside → Logged
logged l = record { room = l.room; entries = map arc_value l.entries.items }

pub record IsRoomy (l : Inside) : Type 0 where
  pub logged : IsLogged (logged l)
  pub capacity : l.room ≤ vec_capacity l.entries
  pub links : AreLinked (component_at (map arc_value l.entries.items)) (length (map arc_value l.entries.items))
      l.links.before.items l.links.last.items
  pub links_capacity : l.room ≤ vec_capacity l.links.before

-- the terms and the recipe steps of all entries
abbrev pub terms_of : List BasisEntry → ℕ
terms_of es = sum_by (λ (e : BasisEntry). length e.vector) es

abbrev pub steps_of : List BasisEntry → ℕ
steps_of es = sum_by (λ (e : BasisEntry). recipe_steps e.recipe) es
