use Rattle.std.proofs.Common.{subst, Some, None}
use Rattle.task_table.specs.Keys.{Costed, TakesCheapest, costed}
use Rattle.task_table.proofs.Costing.{taken_cheapest}
use Rattle.task_table.proofs.costs.Costs.next.Goals as goal
use Rattle.task_table.proofs.costs.Costs.next.Goals.{in-Some, in-None}

pub returns-clause-task : goal.returns-clause-task
returns-clause-task c =
    let new = c.pop.new.self.numbers in
    elim c.match-pop.branch [
      | in-Some w ↦ rw w.result-is (subst (λ (z : Costed). TakesCheapest z.profiles z.queue.numbers (Some w.task_of.result) new) c.self.view_is
          (taken_cheapest (costed c.self.inside) c.self.invariant w.in-Some.key w.task_of.result new w.in-Some.ensures.numbers.0 w.in-Some.ensures.numbers.1
          (w.task_of.ensures c.self.inside.profiles.items)))
      | in-None w ↦ rw w.result-is (subst (λ (z : Costed). TakesCheapest z.profiles z.queue.numbers None new) c.self.view_is w.in-None.ensures.numbers)
    ]
