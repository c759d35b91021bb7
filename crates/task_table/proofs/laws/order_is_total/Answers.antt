use Rattle.task_table.proofs.Ordering.{before_total, before_not_itself, before_chain}
use Rattle.task_table.proofs.laws.order_is_total.Goals as goal

pub returns : goal.returns
returns c = record { total = before_total; strict = before_not_itself; transitive = before_chain }
