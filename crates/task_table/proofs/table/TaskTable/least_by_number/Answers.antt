use Rattle.std.proofs.Common.{arith, sym, ap, ◌≡◌, ◌<◌, length, subst, List, true}
use Rattle.task_table.specs.declared.order.Order.TheVariants.{ByNumber}
use Rattle.task_table.specs.declared.states.TaskState.{TaskState}
use Rattle.task_table.specs.Tasks.{is_wanted}
use Rattle.task_table.specs.Tables.{Table, IsLeast, state_at}
use Rattle.task_table.specs.Inner.{IsHint, table_of}
use Rattle.task_table.proofs.Least.{least_at}
use Rattle.task_table.proofs.table.TaskTable.least_by_number.Goals as goal

pub returns : goal.returns
returns c = λ vectors.
    let at = c.advanced-at.result in
    let d = c.deref.ensures.value in
    let lt : at.number < length c.deref.result.now = omega (arith, c.advanced-at.ensures.hint.within, c.if-at-len.false, c.len.ensures, ap length d) in
    let h = subst (λ (ss : List TaskState). IsHint c.args.wanted ss at) d c.advanced-at.ensures.hint in
    let f = subst (λ (ss : List TaskState). is_wanted c.args.wanted (state_at ss at.number) ≡ true) d (c.advanced-at.ensures.found lt) in
    let by = subst (λ (t : Table). t.order ≡ ByNumber) (sym c.self.view_is) c.requires in
    let r = c.advanced-at.ensures.row lt in
    let P : Table → Type 0 = λ t. IsLeast c.args.wanted vectors t c.task_at.result in
    subst P c.self.view_is (least_at c.args.wanted vectors (table_of c.self.inside) at c.task_at.result by h f r.0
    c.task_at.ensures.number c.task_at.ensures.task)
