use Rattle.std.proofs.Common.{◌≡◌, sym, subst, List}
use Rattle.task_table.specs.declared.order.Order.TheVariants.{ByCost}
use Rattle.task_table.specs.declared.states.TaskState.{TaskState}
use Rattle.task_table.specs.Inner.{table_of}
use Rattle.task_table.specs.Queueing.{FindsCheapest}
use Rattle.task_table.specs.Tables.{Table, IsOver, FindsLeast}
use Rattle.task_table.proofs.Pricing.{least_found}
use Rattle.task_table.proofs.table.TaskTable.least_by_cost.Goals as goal

pub returns : goal.returns
returns c = λ entries over.
    let found = c.cheapest.result in
    let by = subst (λ (t : Table). t.order ≡ ByCost) (sym c.self.view_is) c.requires in
    let finds = subst (λ (ss : List TaskState). FindsCheapest c.args.wanted c.self.inside.costs.profiles ss found) c.deref.ensures.value c.cheapest.ensures in
    subst (λ (t : Table). FindsLeast c.args.wanted entries t found) c.self.view_is
    (least_found c.args.wanted entries (table_of c.self.inside) found c.self.invariant.table by (subst (IsOver entries) (sym c.self.view_is) over)
    c.known.ensures.profiles finds)
