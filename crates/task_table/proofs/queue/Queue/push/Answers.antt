use Rattle.std.proofs.Common.{map, subst, ℕ, List}
use Rattle.std.specs.BinaryHeap.{heap_items}
use Rattle.task_table.specs.Queues.{Queued, HasMore}
use Rattle.task_table.proofs.Queueing.{has_more}
use Rattle.task_table.proofs.queue.Queue.push.Goals as goal

pub returns-clause-numbers : goal.returns-clause-numbers
returns-clause-numbers c =
    let new : List ℕ = map (λ r. r.0) (heap_items c.push.new.self) in
    subst (λ (q : Queued). HasMore q.numbers c.args.number new) c.self.view_is
    (has_more (heap_items c.self.inside.heap) (heap_items c.push.new.self) (record { 0 = c.args.number }) c.in-Ok.ensures.permutation)
