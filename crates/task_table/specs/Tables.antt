-- A table of tasks: the state of each task of a log.
use Rattle.std.specs.Prelude.{◌≡◌, ℕ, ◌≤◌, List, [], true, false, length, map, count_by, Option, Some, None}
use Rattle.std.specs.Prelude.{slice_index_or, slice_set}
use Rattle.module_vec.specs.declared.places.Term.{Term}
use Rattle.outcomes.specs.declared.tasks.Task.{Task}
use Rattle.task_table.specs.declared.TheConstants.{ENTRIES}
use Rattle.task_table.specs.declared.order.Order.{Order}
use Rattle.task_table.specs.declared.states.TaskState.{TaskState}
use Rattle.task_table.specs.declared.states.TaskState.TheVariants.{Taken, Never}
use Rattle.task_table.specs.declared.states.Wanted.{Wanted}
use Rattle.task_table.specs.declared.states.Wanted.TheVariants.{OpenOnes}
use Rattle.task_table.specs.declared.states.Reopened.{Reopened}
use Rattle.task_table.specs.Tasks.{IsTask, tasks_below, number_of, is_wanted, is_reopened, reopened}
use Rattle.task_table.specs.declared.profiles.Profile.{Profile}
use Rattle.task_table.specs.Profiles.{profile_of}
use Rattle.task_table.specs.Orders.{Before}

-- the order of the tasks, how many entries the log has, for how many there is room, the states by number, and what the
-- order looks at in the entries
pub record Table : Type 0 where
  pub order : Order
  pub room : ℕ
  pub count : ℕ
  pub states : List TaskState
  pub profiles : List Profile

-- there is a state for each task, and a profile for each entry
pub record IsTable (table : Table) : Type 0 where
  pub states : length table.states ≡ tasks_below table.count
  pub profiles : length table.profiles ≡ table.count
  pub within : table.count ≤ table.room
  pub most : table.room ≤ ENTRIES

abbrev pub state_at : List TaskState → ℕ → TaskState
state_at states number = slice_index_or states number Never

abbrev pub state_of : Table → Task → TaskState
state_of table t = state_at table.states (number_of t)

-- one task gets another state
abbrev pub put : Table → Task → TaskState → Table
put table t s = record table { states = slice_set table.states (number_of t) s }

-- the entries have these vectors
abbrev pub IsOver : List (List Term) → Table → Type 0
IsOver entries table = table.profiles ≡ map profile_of entries

-- the least task with a wanted state
pub record IsLeast (wanted : Wanted) (entries : List (List Term)) (table : Table) (t : Task) : Type 0 where
  pub task : IsTask table.count t
  pub is : is_wanted wanted (state_of table t) ≡ true
  pub before : (u : Task) → IsTask table.count u → Before table.order entries u t
      → is_wanted wanted (state_of table u) ≡ false

-- no task has a wanted state
abbrev pub NoneIs : Wanted → Table → Type 0
NoneIs wanted table = (u : Task) → IsTask table.count u → is_wanted wanted (state_of table u) ≡ false

abbrev pub FindsLeast : Wanted → List (List Term) → Table → Option Task → Type 0
FindsLeast wanted entries table None = NoneIs wanted table
FindsLeast wanted entries table (Some t) = IsLeast wanted entries table t

-- the least open task is taken, where a task is open
abbrev pub Takes : List (List Term) → Table → Option Task → Table → Type 0
Takes entries old None new = NoneIs OpenOnes old × (new ≡ old)
Takes entries old (Some t) new = IsLeast OpenOnes entries old t × (new ≡ put old t Taken)

-- each hard or each taken task becomes open
abbrev pub reopen : Reopened → Table → Table
reopen from table = record table { states = map (reopened from) table.states }

-- how many tasks become open so
abbrev pub reopened_count : Reopened → Table → ℕ
reopened_count from table = count_by (is_reopened from) table.states

-- a table for a log without entries
abbrev pub empty : Order → ℕ → Table
empty order room = record { order = order; room = room; count = 0; states = []; profiles = [] }
