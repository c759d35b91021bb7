use Rattle.std.proofs.Common.{arith, ◌++◌}
use Rattle.task_table.specs.Rows.{row_states}
use Rattle.task_table.proofs.Pushing.{pair_pushed}
use Rattle.task_table.proofs.rows.push_row.Goals as goal

pub loop-i-preserved : goal.loop-i-preserved
loop-i-preserved g c =
    let row = g.R.Row.settled c.args.row.now in
    record {
      items_so_far = pair_pushed c.loop-i.states.items c.push_reserved.new.self.items c.push_reserved-in-loop-i.new.self.items (c.args.states.now.items
          ++ row_states row) row c.loop-i.i c.settled-settled.result
          c.first.result c.first-in-loop-i.result c.push_reserved.ensures.items c.push_reserved-in-loop-i.ensures.items c.first.ensures
          c.first-in-loop-i.ensures c.settled-settled.ensures c.loop-i.invariant.items_so_far;
      length_so_far = omega (arith, c.push_reserved.ensures.len, c.push_reserved-in-loop-i.ensures.len, c.loop-i.invariant.length_so_far);
      room = omega (arith, c.push_reserved.ensures.capacity, c.push_reserved-in-loop-i.ensures.capacity, c.loop-i.invariant.room);
    }
