-- Queues of open tasks, and cheapest tasks.
use Rattle.std.specs.Prelude.{◌≡◌, ◌≢◌, ℕ, ◌<◌, ◌≤◌, true, false, List, length, Contains, Option, Some, None}
use Rattle.outcomes.specs.declared.tasks.Task.{Task}
use Rattle.task_table.specs.declared.profiles.Profile.{Profile}
use Rattle.task_table.specs.declared.states.TaskState.{TaskState}
use Rattle.task_table.specs.declared.states.Wanted.{Wanted}
use Rattle.task_table.specs.Keys.{AreQueued, key_of}
use Rattle.task_table.specs.Tables.{state_at}
use Rattle.task_table.specs.Tasks.{IsTask, number_of, is_open, is_wanted}

-- every other open task is queued
abbrev pub AreQueuedBut : Task → List Profile → List TaskState → List ℕ → Type 0
AreQueuedBut t profiles states numbers = (u : Task) → IsTask (length profiles) u → u ≢ t
    → is_open (state_at states (number_of u)) ≡ true → Contains numbers (key_of profiles u)

-- every open task with a number below n is queued
abbrev pub AreQueuedBelow : ℕ → List Profile → List TaskState → List ℕ → Type 0
AreQueuedBelow n profiles states numbers = (u : Task) → IsTask (length profiles) u → number_of u < n
    → is_open (state_at states (number_of u)) ≡ true → Contains numbers (key_of profiles u)

-- t is wanted, and no wanted task with a number below n is cheaper
pub record IsCheapestBelow (n : ℕ) (wanted : Wanted) (profiles : List Profile) (states : List TaskState)
    (t : Task) : Type 0 where
  pub task : IsTask (length profiles) t
  pub is : is_wanted wanted (state_at states (number_of t)) ≡ true
  pub cheapest : (u : Task) → IsTask (length profiles) u → number_of u < n
      → is_wanted wanted (state_at states (number_of u)) ≡ true → key_of profiles t ≤ key_of profiles u

abbrev pub FindsCheapestBelow : ℕ → Wanted → List Profile → List TaskState → Option Task → Type 0
FindsCheapestBelow n wanted profiles states None = (u : Task) → IsTask (length profiles) u → number_of u < n
    → is_wanted wanted (state_at states (number_of u)) ≡ false
FindsCheapestBelow n wanted profiles states (Some t) = IsCheapestBelow n wanted profiles states t

-- the cheapest task with a wanted state, or None where there is none
abbrev pub FindsCheapest : Wanted → List Profile → List TaskState → Option Task → Type 0
FindsCheapest wanted profiles states found = FindsCheapestBelow (length states) wanted profiles states found

-- every open task but the one that was found is queued
abbrev pub LeavesQueued : List Profile → List TaskState → Option Task → List ℕ → Type 0
LeavesQueued profiles states None numbers = AreQueued profiles states numbers
LeavesQueued profiles states (Some t) numbers = AreQueuedBut t profiles states numbers
