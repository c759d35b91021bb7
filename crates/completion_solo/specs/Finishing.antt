-- What `finish` answers, and what it leaves of the book.
use Rattle.std.specs.Prelude.{◌≡◌, ◌≢◌, ◌≤◌, ℕ, List, ◌++◌, false, true, length, Some, None, Result, Ok, Err}
use Rattle.presentation.specs.Presented.{Presented}
use Rattle.outcomes.specs.declared.ends.End.{End}
use Rattle.outcomes.specs.declared.ends.End.TheVariants.{Sealed, Stopped, Full, Spent}
use Rattle.outcomes.specs.declared.ends.Measure.{Measure}
use Rattle.outcomes.specs.declared.tasks.Task.{Task}
use Rattle.module_vec.specs.declared.faults.Stop.{Stop}
use Rattle.task_table.specs.declared.states.Wanted.TheVariants.{OpenOnes, Unclosed}
use Rattle.task_table.specs.Tasks.{IsTask, is_taken, is_unclosed}
use Rattle.task_table.specs.Tables.{NoneIs, IsLeast, state_of}
use Rattle.basis_entry.specs.Entries.{BasisEntry, vectors_of}
use Rattle.pair_book.specs.Books.{Held}
use Rattle.pair_book.specs.Measures.{PassesFirst}
use Rattle.completion_solo.specs.Ends.{Ends, IsTaskOf, StopsAt, HasRest}

-- what a completion keeps of a book: the old log begins the new one, what was closed stays closed, and commits don't
-- fall
pub record Continues (old new : Held) : Type 0 where
  pub source : new.source ≡ old.source
  pub limits : new.limits ≡ old.limits
  pub base : new.base ≡ old.base
  pub more : List BasisEntry
  pub entries : new.entries ≡ old.entries ++ more
  pub closed : (t : Task) → IsTask (length old.entries) t → is_unclosed (state_of old.tasks t) ≡ false
      → is_unclosed (state_of new.tasks t) ≡ false
  pub commits : old.commits ≤ new.commits

abbrev pub NoneTaken : Held → Type 0
NoneTaken h = (t : Task) → IsTask (length h.entries) t → is_taken (state_of h.tasks t) ≡ false

-- the commits haven't reached the budget, and the book isn't sealed
abbrev pub IsWithinBudget : Held → Type 0
IsWithinBudget h = (h.limits.budget ≢ Some h.commits) × (h.seal ≡ None)

-- t is the least task that isn't closed
abbrev pub IsFirstUnclosed : Held → Task → Type 0
IsFirstUnclosed h t = IsLeast Unclosed (vectors_of h.entries) h.tasks t

-- no task is open, and each that isn't closed stops by the log
pub record IsStuck (h : Held) (t : Task) (stop : Stop) : Type 0 where
  pub budget : IsWithinBudget h
  pub first : IsFirstUnclosed h t
  pub none_open : NoneIs OpenOnes h.tasks
  pub stops : StopsAt h.entries t stop
  pub all : (u : Task) → IsTask (length h.entries) u → is_unclosed (state_of h.tasks u) ≡ true
      → (s : Stop) × StopsAt h.entries u s

-- the least open task has a rest, for which there is no room
pub record HasNoRoom (h : Held) (m : Measure) (c : ℕ) : Type 0 where
  pub budget : IsWithinBudget h
  pub task : Task
  pub first : IsLeast OpenOnes (vectors_of h.entries) h.tasks task
  pub is_task : IsTaskOf h.entries task
  pub entry : BasisEntry
  pub rest : HasRest h.source h.entries task entry
  pub passes : PassesFirst h.limits h.entries entry m c

-- what the book shows at an end: `Sealed` comes exactly where every task is closed, and of the others `Spent` exactly
-- where the commits equal the budget
abbrev pub Shows : Held → End → Type 0
Shows h Sealed = NoneIs Unclosed h.tasks × (h.seal ≡ Some (record { source = h.source; entries = h.entries }))
Shows h (Stopped t stop) = IsStuck h t stop
Shows h (Full m c) = HasNoRoom h m c
Shows h (Spent c t) = (h.limits.budget ≡ Some c) × (c ≡ h.commits) × IsFirstUnclosed h t × (h.seal ≡ None)

-- a completion of p has come to this end
abbrev pub EndsWith : Presented → Held → End → Held → Type 0
EndsWith p old end new = Continues old new × NoneTaken new × Shows new end × Ends p new.limits new.entries end

-- it has run out of memory
abbrev pub LacksMemory : Held → Held → Type 0
LacksMemory old new = Continues old new × NoneTaken new × (new.seal ≡ old.seal)

abbrev pub Finishes : {E : Type 0} → Presented → Held → Result End E → Held → Type 0
Finishes p old (Ok end) new = EndsWith p old end new
Finishes p old (Err e) new = LacksMemory old new
