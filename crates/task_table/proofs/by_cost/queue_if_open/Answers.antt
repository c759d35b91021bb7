use Rattle.std.proofs.Common.{arith, length}
use Rattle.task_table.proofs.Counting.{number_within}
use Rattle.task_table.proofs.by_cost.queue_if_open.Goals as goal

pub bounds-states-number : goal.bounds-states-number
bounds-states-number c = let w = number_within c.args.task (length c.args.costs.now.profiles) c.requires.task
    in omega (arith, w, c.number.ensures, c.requires.states)
