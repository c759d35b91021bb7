-- The tasks that a new entry brings: two with each entry before it.
use Rattle.std.specs.Prelude.{◌+◌, Bool, cond, List, [], ◌∷◌, ◌++◌}
use Rattle.module_vec.specs.declared.places.Term.{Term}
use Rattle.outcomes.specs.declared.kinds.PairKind.{PairKind}
use Rattle.outcomes.specs.declared.kinds.PairKind.TheVariants.{S, G}
use Rattle.task_table.specs.declared.rows.Settled.{Settled}
use Rattle.task_table.specs.declared.states.TaskState.{TaskState}
use Rattle.task_table.specs.declared.states.TaskState.TheVariants.{Open, Never}
use Rattle.task_table.specs.Profiles.{profile_of}
use Rattle.task_table.specs.Tables.{Table}

-- a task that isn't settled is open
abbrev pub first_state : Bool → TaskState
first_state settled = cond settled Never Open

-- the states of the tasks with each earlier entry in order
abbrev pub row_states : List Settled → List TaskState
row_states [] = []
row_states (s ∷ ss) = first_state s.g ∷ (first_state s.s ∷ row_states ss)

-- which of a pair's tasks are settled
abbrev pub settled_of : PairKind → Settled → Bool
settled_of G s = s.g
settled_of S s = s.s

-- the table with the tasks of one more entry, which has the vector v
abbrev pub grown : Table → List Settled → List Term → Table
grown table row v = record table {
  count = table.count + 1;
  states = table.states ++ row_states row;
  profiles = table.profiles ++ profile_of v ∷ [];
}
