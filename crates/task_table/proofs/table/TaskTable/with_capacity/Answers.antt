use Rattle.std.proofs.Common.{arith, refl, sym, ap, ◌∙◌, length}
use Rattle.task_table.specs.declared.states.Wanted.TheVariants.{OpenOnes, Unclosed}
use Rattle.task_table.proofs.Counting.{tasks_below_none}
use Rattle.task_table.proofs.Hinting.{hint_start}
use Rattle.task_table.specs.Queues.{Queued}
use Rattle.task_table.proofs.Ordering.{other_order}
use Rattle.task_table.proofs.table.TaskTable.with_capacity.Goals as goal
use Rattle.task_table.proofs.table.TaskTable.with_capacity.Goals.{in-ByNumber, in-ByCost}

pub invariant_of-result : goal.invariant_of-result
invariant_of-result c = record {
  table = record {
    states = ap length c.in_ok-with_capacity.ensures.items ∙ tasks_below_none 0 refl;
    within = omega arith;
    most = c.requires;
    profiles = ap length c.in_ok-with_room.ensures.profiles;
  };
  capacity = omega (arith, c.in_ok-with_capacity.ensures.capacity, c.row.ensures.value);
  open_hint = hint_start OpenOnes c.in_ok-with_capacity.field-0.items;
  unclosed_hint = hint_start Unclosed c.in_ok-with_capacity.field-0.items;
  costs_capacity = c.in_ok-with_room.ensures.room;
  queued = record {
    tasks = λ by u k. let n = ap length c.in_ok-with_room.ensures.profiles in let k1 = k.1 in absurd (omega (arith, k1, n));
    room = λ by. let q = ap (λ (z : Queued). z.room) c.in_ok-with_room.ensures.queue in elim c.match-order.branch [
      | in-ByNumber w ↦ absurd (other_order (sym by ∙ w.in-ByNumber.is))
      | in-ByCost w ↦ omega (arith, q, w.queued-is, w.row-queued.ensures.value)
    ];
  };
}
