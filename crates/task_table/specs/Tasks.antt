-- Tasks of a log, their numbers, and what a state says of one.
use Rattle.std.specs.Prelude.{ℕ, zero, suc, ◌+◌, ◌<◌, Bool, true, false, cond}
use Rattle.outcomes.specs.declared.kinds.PairKind.{PairKind}
use Rattle.outcomes.specs.declared.kinds.PairKind.TheVariants.{S, G}
use Rattle.outcomes.specs.declared.tasks.Task.{Task}
use Rattle.task_table.specs.declared.states.TaskState.{TaskState}
use Rattle.task_table.specs.declared.states.TaskState.TheVariants.{Open, Taken, Hard, Closed, Never}
use Rattle.task_table.specs.declared.states.Wanted.{Wanted}
use Rattle.task_table.specs.declared.states.Wanted.TheVariants.{OpenOnes, Unclosed}
use Rattle.task_table.specs.declared.states.Reopened.{Reopened}
use Rattle.task_table.specs.declared.states.Reopened.TheVariants.{HardOnes, TakenOnes}

-- a task of a log with so many entries
abbrev pub IsTask : ℕ → Task → Type 0
IsTask count t = (t.i < t.j) × (t.j < count)

-- at one pair the G task has the lower number
abbrev pub kind_number : PairKind → ℕ
kind_number G = 0
kind_number S = 1

-- how many tasks the entries below j have: j·(j - 1)
unfoldable pub tasks_below : ℕ → ℕ
tasks_below zero = 0
tasks_below (suc j) = tasks_below j + (j + j)

-- the number of a task among all tasks, by j, then i, then kind
abbrev pub number_of : Task → ℕ
number_of t = tasks_below t.j + (t.i + t.i + kind_number t.kind)

-- ---- states

abbrev pub is_open : TaskState → Bool
is_open Open = true
is_open Taken = false
is_open Hard = false
is_open Closed = false
is_open Never = false

abbrev pub is_taken : TaskState → Bool
is_taken Open = false
is_taken Taken = true
is_taken Hard = false
is_taken Closed = false
is_taken Never = false

abbrev pub is_hard : TaskState → Bool
is_hard Open = false
is_hard Taken = false
is_hard Hard = true
is_hard Closed = false
is_hard Never = false

-- closed by a commit, and not from the start
abbrev pub is_closed_later : TaskState → Bool
is_closed_later Open = false
is_closed_later Taken = false
is_closed_later Hard = false
is_closed_later Closed = true
is_closed_later Never = false

-- closed from the start, or not a task at all
abbrev pub is_never : TaskState → Bool
is_never Open = false
is_never Taken = false
is_never Hard = false
is_never Closed = false
is_never Never = true

abbrev pub is_unclosed : TaskState → Bool
is_unclosed Open = true
is_unclosed Taken = true
is_unclosed Hard = true
is_unclosed Closed = false
is_unclosed Never = false

-- whether the state is one that is looked for
abbrev pub is_wanted : Wanted → TaskState → Bool
is_wanted OpenOnes s = is_open s
is_wanted Unclosed s = is_unclosed s

-- whether the state is one that becomes open
abbrev pub is_reopened : Reopened → TaskState → Bool
is_reopened HardOnes s = is_hard s
is_reopened TakenOnes s = is_taken s

abbrev pub reopened : Reopened → TaskState → TaskState
reopened from s = cond (is_reopened from s) Open s
