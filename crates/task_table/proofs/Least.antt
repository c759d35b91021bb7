-- The hint that stands at a wanted task stands at the least one.
use Rattle.std.proofs.Common.{◌+◌, ◌<◌, ◌≡◌, arith, ap, ◌∙◌, List, length, true}
use Rattle.module_vec.specs.declared.places.Term.{Term}
use Rattle.outcomes.specs.declared.tasks.Task.{Task}
use Rattle.task_table.specs.declared.hints.Hint.{Hint}
use Rattle.task_table.specs.declared.order.Order.TheVariants.{ByNumber}
use Rattle.task_table.specs.declared.states.Wanted.{Wanted}
use Rattle.task_table.specs.Tasks.{IsTask, number_of, is_wanted}
use Rattle.task_table.specs.Tables.{Table, IsTable, IsLeast, NoneIs, state_at}
use Rattle.task_table.specs.Inner.{IsHint}
use Rattle.task_table.proofs.Counting.{number_within}
use Rattle.task_table.proofs.Ordering.{before_number}

pub least_at : (wanted : Wanted) (entries : List (List Term)) (table : Table) (hint : Hint) (t : Task) → table.order ≡ ByNumber
    → IsHint wanted table.states hint →
    is_wanted wanted (state_at table.states hint.number) ≡ true → hint.row < table.count → number_of t ≡ hint.number → IsTask (hint.row + 1) t
    → IsLeast wanted entries table t
least_at wanted entries table hint t by h is row number task = record {
  task = (task.0, let a = task.1 in omega (arith, a, row));
  is = ap (λ k. is_wanted wanted (state_at table.states k)) number ∙ is;
  before = λ u k b. let l = before_number table.order entries u t by k.0 b in h.before (number_of u) (omega (arith, l, number));
}

pub none_at_end : (wanted : Wanted) (table : Table) (hint : Hint) → IsTable table → IsHint wanted table.states hint → hint.number ≡ length table.states
    → NoneIs wanted table
none_at_end wanted table hint t h end = λ u k. let w = number_within u table.count k in let s = t.states in h.before (number_of u) (omega (arith, w, s, end))
