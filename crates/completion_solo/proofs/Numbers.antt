-- Each number below that of all tasks is a task's, and what is read after a write.
use Rattle.std.proofs.Common.{ℕ, zero, suc, ◌+◌, ◌-◌, ◌<◌, ◌≡◌, ◌≢◌, ◌⊎◌, inl, inr, arith, refl, ap, ◌∙◌, Bool, true, false}
use Rattle.std.proofs.lemmas.List.{get_or-set_other}
use Rattle.outcomes.specs.declared.tasks.Task.{Task}
use Rattle.outcomes.specs.declared.kinds.PairKind.TheVariants.{S, G}
use Rattle.task_table.specs.declared.states.TaskState.{TaskState}
use Rattle.task_table.specs.declared.states.TaskState.TheVariants.{Never}
use Rattle.task_table.specs.Tasks.{IsTask, tasks_below, number_of}
use Rattle.task_table.specs.Tables.{Table, IsTable, put, state_of}
use Rattle.task_table.proofs.Counting.{at_most}
use Rattle.task_table.proofs.Ordering.{numbers_apart}
use Rattle.task_table.proofs.Putting.{put_same}

pub either : (b : Bool) → (b ≡ true) ⊎ (b ≡ false)
either true = inl refl
either false = inr refl

pub not_both : (b : Bool) → b ≡ true → b ≡ false → ⊥
not_both b p q = cc

half : (j r : ℕ) → r < j + j → (i : ℕ) × (i < j) × ((r ≡ i + i) ⊎ (r ≡ i + i + 1))
half zero r h = absurd (omega (arith, h))
half (suc j) r h = elim (at_most r (j + j)) [
  | inl lt ↦ let x = half j r lt in (x.0, (let a = x.1 in omega (arith, a)), x.2)
  | inr le ↦ elim (at_most r (j + j + 1)) [
    | inl lt ↦ (j, omega arith, inl (omega (arith, lt, le)))
    | inr more ↦ (j, omega arith, inr (omega (arith, h, more)))
  ]
]

task_in_row : (j below n : ℕ) → below ≡ tasks_below j → (i : ℕ) → i < j → (n ≡ below + (i + i)) ⊎ (n ≡ below + (i + i + 1))
    → (t : Task) × IsTask (suc j) t × (number_of t ≡ n)
task_in_row j below n e i lt (inl q) = (record { i = i; j = j; kind = G }, (lt, omega arith), omega (arith, e, q))
task_in_row j below n e i lt (inr q) = (record { i = i; j = j; kind = S }, (lt, omega arith), omega (arith, e, q))

-- the task with this number
pub numbered : (count n : ℕ) → n < tasks_below count → (t : Task) × IsTask count t × (number_of t ≡ n)
unfolding tasks_below
numbered zero n h = absurd (omega (arith, h))
numbered (suc j) n h = elim (at_most n (tasks_below j)) [
  | inl lt ↦ let x = numbered j n lt in (x.0, (x.1.0, let a = x.1.1 in omega (arith, a)), x.2)
  | inr le ↦
      let y = half j (n - tasks_below j) (omega (arith, h, le)) in
      task_in_row j (tasks_below j) n refl y.0 y.1 (elim y.2 [ inl e ↦ inl (omega (arith, e, le)) | inr e ↦ inr (omega (arith, e, le)) ])
]

-- what is read after one state was written
pub read_put : (tasks : Table) (t u : Task) (s : TaskState) → IsTable tasks → IsTask tasks.count t → IsTask tasks.count u →
    ((u ≡ t) × (state_of (put tasks t s) u ≡ s)) ⊎ ((u ≢ t) × (state_of (put tasks t s) u ≡ state_of tasks u))
read_put tasks t u s h k m = elim (numbers_apart t u k.0 m.0) [
  | inl e ↦ inl (e, ap (state_of (put tasks t s)) e ∙ put_same tasks t s h k)
  | inr ne ↦ inr ((λ e. ne (ap number_of e)), get_or-set_other tasks.states (number_of t) (number_of u) s Never ne)
]
