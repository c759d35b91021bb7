use Rattle.std.proofs.Common.{map, length, subst, Some, None, ◌≡◌, rules}
use Rattle.std.specs.BinaryHeap.{heap_items}
use Rattle.task_table.specs.Queues.{Queued, TakesLeast}
use Rattle.task_table.proofs.Queueing.{taken_least, none_taken}
use Rattle.task_table.proofs.queue.Queue.pop.Goals as goal
use Rattle.task_table.proofs.queue.Queue.pop.Goals.{in-Some, in-None}

pub returns-clause-numbers : goal.returns-clause-numbers
returns-clause-numbers c =
    let old = heap_items c.self.inside.heap in
    let new = heap_items c.pop.new.self in
    elim c.match-pop.branch [
      | in-Some w ↦ rw w.result-is (subst (λ (q : Queued). TakesLeast q.numbers (Some w.in-Some.field-0.0) (map (λ r. r.0) new)) c.self.view_is
          (taken_least old new w.in-Some.field-0 w.in-Some.ensures.permutation (w.in-Some.ensures.heap_order c.self.invariant).1))
      | in-None w ↦ let n : length old ≡ 0 = search rules
          in rw w.result-is (subst (λ (q : Queued). TakesLeast q.numbers None (map (λ r. r.0) new)) c.self.view_is
          (none_taken old new n w.in-None.ensures.unchanged.0))
    ]
