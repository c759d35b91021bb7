-- A task by its cost as one number of 52 binary digits: its rank, and then its pair and its kind.
use Rattle.std.specs.List.{AllByRecursion}
use Rattle.std.specs.Prelude.{◌≡◌, ℕ, ◌+◌, ◌*◌, ◌≤◌, true, List, [], length, Contains, slice_index_or, vec_capacity}
use Rattle.std.specs.Prelude.{Option}
use Rattle.std.specs.Prelude.{Some, None}
use Rattle.outcomes.specs.declared.tasks.Task.{Task}
use Rattle.task_table.specs.declared.TheConstants.{ENTRIES}
use Rattle.task_table.specs.declared.costs.Costs.TheInside.{Inside}
use Rattle.task_table.specs.declared.profiles.Profile.{Profile}
use Rattle.task_table.specs.declared.states.TaskState.{TaskState}
use Rattle.task_table.specs.Orders.{Rank, cost}
use Rattle.task_table.specs.Profiles.{IsProfile, profile_of}
use Rattle.task_table.specs.Queues.{Queued, IsLeastOf, HasMore}
use Rattle.task_table.specs.Tasks.{IsTask, number_of, kind_number, is_open}
use Rattle.task_table.specs.Tables.{state_at}

abbrev pub profile_at : List Profile → ℕ → Profile
profile_at profiles i = slice_index_or profiles i (profile_of [])

-- 1 digit, 17 digits and 9 digits
abbrev pub rank_number : Rank → ℕ
rank_number r = (r.length * 131072 + r.degree) * 512 + r.digits

-- 12 digits, 12 digits and 1 digit
abbrev pub pair_number : Task → ℕ
pair_number t = (t.j * 4096 + t.i) * 2 + kind_number t.kind

abbrev pub rank_of : List Profile → Task → Rank
rank_of profiles t = cost (profile_at profiles t.i) (profile_at profiles t.j)

unfoldable pub key_of : List Profile → Task → ℕ
key_of profiles t = rank_number (rank_of profiles t) * 33554432 + pair_number t

-- the number is the key of a task
pub record IsKey (profiles : List Profile) (x : ℕ) : Type 0 where
  pub task : Task
  pub is_task : IsTask (length profiles) task
  pub is : x ≡ key_of profiles task

-- the profiles of a log's vectors, for how many there is room, and a queue of keys
pub record Costed : Type 0 where
  pub profiles : List Profile
  pub room : ℕ
  pub queue : Queued

abbrev pub costed : Inside → Costed
costed c = record { profiles = c.profiles.items; room = vec_capacity c.profiles; queue = c.queue }

pub record AreCosts (c : Costed) : Type 0 where
  pub profiles : AllByRecursion IsProfile c.profiles
  pub most : length c.profiles ≤ ENTRIES
  pub keys : (x : ℕ) → Contains c.queue.numbers x → IsKey c.profiles x

abbrev pub AreKept : Inside → Type 0
AreKept c = AreCosts (costed c)

-- every open task is queued
abbrev pub AreQueued : List Profile → List TaskState → List ℕ → Type 0
AreQueued profiles states numbers = (t : Task) → IsTask (length profiles) t
    → is_open (state_at states (number_of t)) ≡ true → Contains numbers (key_of profiles t)

-- the cheapest task is taken from the queue, once, where there is one
abbrev pub TakesCheapest : List Profile → List ℕ → Option Task → List ℕ → Type 0
TakesCheapest profiles old None new = (old ≡ []) × (new ≡ [])
TakesCheapest profiles old (Some t) new = IsTask (length profiles) t × IsLeastOf old (key_of profiles t)
    × HasMore new (key_of profiles t) old
