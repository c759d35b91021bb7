-- Reading after a write.
use Rattle.std.proofs.Common.{◌<◌, ◌≡◌, ◌⊎◌, inl, inr, arith, sym}
use Rattle.std.proofs.lemmas.List.{get_or-set_same, get_or-set_other}
use Rattle.outcomes.specs.declared.tasks.Task.{Task}
use Rattle.task_table.specs.declared.states.TaskState.{TaskState}
use Rattle.task_table.specs.declared.states.TaskState.TheVariants.{Never}
use Rattle.task_table.specs.Tasks.{IsTask, number_of}
use Rattle.task_table.specs.Tables.{Table, IsTable, put, state_of}
use Rattle.task_table.proofs.Counting.{number_within}
use Rattle.task_table.proofs.Ordering.{numbers_apart}

pub same_number : (t u : Task) → t.i < t.j → u.i < u.j → number_of t ≡ number_of u → t ≡ u
same_number t u a b e = elim (numbers_apart t u a b) [ inl s ↦ sym s | inr ne ↦ absurd (ne (sym e)) ]

pub put_same : (table : Table) (t : Task) (s : TaskState) → IsTable table → IsTask table.count t → state_of (put table t s) t ≡ s
put_same table t s h k = let w = number_within t table.count k in let l = h.states in get_or-set_same table.states (number_of t) s Never (omega (arith, w, l))

pub put_other : (table : Table) (t u : Task) (s : TaskState) → IsTable table → IsTask table.count t → IsTask table.count u
    → (state_of (put table t s) u ≡ state_of table u) ⊎ (u ≡ t)
put_other table t u s h k m = elim (numbers_apart t u k.0 m.0) [
  | inl e ↦ inr e
  | inr ne ↦ inl
      (get_or-set_other table.states (number_of t) (number_of u) s Never ne)
]
