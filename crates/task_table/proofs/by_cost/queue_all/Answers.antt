use Rattle.std.proofs.Common.{arith}
use Rattle.task_table.proofs.Pricing.{none_below_one}
use Rattle.task_table.proofs.by_cost.queue_all.Goals as goal

pub queue_from-requires-clause-others : goal.queue_from-requires-clause-others
queue_from-requires-clause-others c = λ u k lt. absurd (omega (arith, lt, c.first_of.ensures.number, none_below_one))
