-- Books none of whose tasks is taken.
use Rattle.std.proofs.Common.{◌≡◌, refl, ap, ◌∙◌, false}
use Rattle.presentation.specs.Presented.{Presented}
use Rattle.strong_pairs.specs.Pairs.{lead_at}
use Rattle.task_table.specs.declared.states.TaskState.{TaskState}
use Rattle.task_table.specs.declared.states.TaskState.TheVariants.{Open, Taken, Hard, Closed, Never}
use Rattle.task_table.specs.declared.states.Reopened.TheVariants.{TakenOnes}
use Rattle.task_table.specs.Tasks.{number_of, is_taken, reopened}
use Rattle.task_table.specs.Tables.{reopen, state_of}
use Rattle.task_table.specs.Rows.{settled_of}
use Rattle.task_table.proofs.Hinting.{state_reopened}
use Rattle.basis_entry.specs.Entries.{vectors_of}
use Rattle.pair_book.specs.declared.limits.Limits.{Limits}
use Rattle.pair_book.specs.Books.{Held, IsOpened}
use Rattle.pair_book.specs.Settled.{settled_by}
use Rattle.completion_solo.specs.Finishing.{NoneTaken}
use Rattle.completion_solo.proofs.Committing.{first_free}

pub none_at_opening : (p : Presented) (limits : Limits) (h : Held) → IsOpened p limits h → (h.source ≡ p) × NoneTaken h
none_at_opening p limits h o = (
  ap (λ (x : Held). x.source) o.is,
  λ t k. ap is_taken (o.tasks.each t k) ∙ first_free (settled_of t.kind (settled_by (lead_at (vectors_of h.entries) t.i) (lead_at (vectors_of h.entries) t.j))),
)

none_left : (s : TaskState) → is_taken (reopened TakenOnes s) ≡ false
none_left Open = refl
none_left Taken = refl
none_left Hard = refl
none_left Closed = refl
none_left Never = refl

pub none_released : (h : Held) → NoneTaken (record h { tasks = reopen TakenOnes h.tasks })
none_released h t k = ap is_taken (state_reopened TakenOnes h.tasks.states (number_of t)) ∙ none_left (state_of h.tasks t)
