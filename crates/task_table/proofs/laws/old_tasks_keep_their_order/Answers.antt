use Rattle.task_table.proofs.Ordering.{rank_stays, before_stays}
use Rattle.task_table.proofs.laws.old_tasks_keep_their_order.Goals as goal

pub returns : goal.returns
returns c = record { rank = rank_stays; order = λ order entries more t u h k. let b = before_stays order entries more t u h k in (b.1, b.0) }
