-- What stands inside a table: below a hint no task has a wanted state, and by cost each open task is queued.
use Rattle.std.specs.Prelude.{◌≡◌, ℕ, ◌≤◌, ◌<◌, List, false, length, vec_capacity}
use Rattle.task_table.specs.declared.hints.Hint.{Hint}
use Rattle.task_table.specs.declared.states.TaskState.{TaskState}
use Rattle.task_table.specs.declared.states.Wanted.{Wanted}
use Rattle.task_table.specs.declared.states.Wanted.TheVariants.{OpenOnes, Unclosed}
use Rattle.task_table.specs.declared.table.TaskTable.TheInside.{Inside}
use Rattle.task_table.specs.Tasks.{tasks_below, is_wanted}
use Rattle.task_table.specs.declared.order.Order.{Order}
use Rattle.task_table.specs.declared.order.Order.TheVariants.{ByCost}
use Rattle.task_table.specs.Queues.{Queued}
use Rattle.task_table.specs.Keys.{AreQueued}
use Rattle.task_table.specs.Tables.{Table, IsTable, state_at}

-- no state before the hint is wanted, and the tasks of its row begin at it or before
pub record IsHint (wanted : Wanted) (states : List TaskState) (hint : Hint) : Type 0 where
  pub within : hint.number ≤ length states
  pub begins : tasks_below hint.row ≤ hint.number
  pub before : (k : ℕ) → k < hint.number → is_wanted wanted (state_at states k) ≡ false

-- what callers see
abbrev pub table_of : Inside → Table
table_of t = record {
  order = t.order;
  room = t.room;
  count = t.count;
  states = t.states.items;
  profiles = t.costs.profiles;
}

-- by cost, every open task is queued, and there is room for all tasks
pub record IsQueued (order : Order) (table : Table) (queue : Queued) : Type 0 where
  pub tasks : order ≡ ByCost → AreQueued table.profiles table.states queue.numbers
  pub room : order ≡ ByCost → tasks_below table.room ≤ queue.room

pub record IsKept (t : Inside) : Type 0 where
  pub table : IsTable (table_of t)
  pub capacity : tasks_below t.room ≤ vec_capacity t.states
  pub open_hint : IsHint OpenOnes t.states.items t.open_hint
  pub unclosed_hint : IsHint Unclosed t.states.items t.unclosed_hint
  pub costs_capacity : t.room ≤ t.costs.room
  pub queued : IsQueued t.order (table_of t) t.costs.queue
