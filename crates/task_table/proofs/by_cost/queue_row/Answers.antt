use Rattle.std.proofs.Common.{arith}
use Rattle.task_table.proofs.Counting.{tasks_below_next}
use Rattle.task_table.proofs.by_cost.queue_row.Goals as goal

pub queue_from-requires-clause-room : goal.queue_from-requires-clause-room
queue_from-requires-clause-room c =
    let n = tasks_below_next c.args.j in
    let room = c.has_room.ensures.0 c.if-has_room.true in omega (arith, n, room, c.requires.states, c.first_of.ensures.number)
