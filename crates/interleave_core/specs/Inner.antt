-- What stands inside the machine's core.
use Rattle.std.specs.Prelude.{◌≡◌, ◌≤◌, List, length, take, true}
use Rattle.module_vec.specs.declared.places.Term.{Term}
use Rattle.task_table.specs.declared.states.Wanted.TheVariants.{Unclosed}
use Rattle.task_table.specs.Tables.{NoneIs}
use Rattle.reducer_index.specs.Leads.{AreLeads}
use Rattle.basis_entry.specs.Entries.{vectors_of}
use Rattle.pair_book.specs.Books.{Held}
use Rattle.interleave_core.specs.declared.machine.Core.TheInside.{Inside}
use Rattle.interleave_core.specs.Machine.{State}
use Rattle.interleave_core.specs.Invariants.{IsCore}

-- what callers see
abbrev pub state_in : Inside → State
state_in c = record { book = c.book; hands = c.hands.items; sessions = c.sessions.items }

-- the leads of the first vectors of a list
pub record HasLeads (b : List (List Term)) (leads : List Term) : Type 0 where
  pub within : length leads ≤ length b
  pub are : AreLeads (take (length leads) b) leads

-- some task of the book isn't closed
abbrev pub IsUnclosed : Held → Type 0
IsUnclosed h = NoneIs Unclosed h.tasks → ⊥

pub record IsKept (c : Inside) : Type 0 where
  pub core : IsCore (state_in c)
  pub source : c.source.value ≡ c.book.source
  pub leads : HasLeads (vectors_of c.book.entries) c.index
  pub stuck : c.stuck ≡ true → IsUnclosed c.book
