use Rattle.std.proofs.Common.{arith, sym, ap, ◌∙◌, ◌≡◌, ◌<◌, length, subst, List, true, slice_set}
use Rattle.task_table.specs.declared.order.Order.TheVariants.{ByNumber}
use Rattle.task_table.specs.declared.states.TaskState.{TaskState}
use Rattle.task_table.specs.declared.states.TaskState.TheVariants.{Taken}
use Rattle.task_table.specs.declared.states.Wanted.TheVariants.{OpenOnes}
use Rattle.task_table.specs.Tasks.{is_wanted}
use Rattle.task_table.specs.Tables.{Table, IsLeast, state_at, put}
use Rattle.task_table.specs.Inner.{IsHint, table_of}
use Rattle.task_table.proofs.Least.{least_at}
use Rattle.task_table.proofs.table.TaskTable.take_by_number.Goals as goal

pub returns : goal.returns
returns c = λ vectors.
    let at = c.advanced-self-inside-2.result in
    let d = c.deref-2.ensures.value in
    let lt : at.number < length c.deref-2.result.now = omega (
      arith,
      c.advanced-self-inside-2.ensures.hint.within,
      c.if-self-len.false,
      c.len.ensures,
      ap length d,
    ) in
    let h = subst (λ (ss : List TaskState). IsHint OpenOnes ss at) d c.advanced-self-inside-2.ensures.hint in
    let f = subst (λ (ss : List TaskState). is_wanted OpenOnes (state_at ss at.number) ≡ true) d (c.advanced-self-inside-2.ensures.found lt) in
    let by = subst (λ (t : Table). t.order ≡ ByNumber) (sym c.self.view_is) c.requires in
    let r = c.advanced-self-inside-2.ensures.row lt in
    let P : Table → Type 0 = λ t. IsLeast OpenOnes vectors t c.task_at.result in (
      subst P c.self.view_is (least_at OpenOnes vectors (table_of c.self.inside) at c.task_at.result by h f r.0
          c.task_at.ensures.number c.task_at.ensures.task),
      ap (λ k. record (table_of c.self.inside) { states = slice_set c.self.inside.states.items k Taken }) (sym c.task_at.ensures.number)
          ∙ ap (λ (t : Table). put t c.task_at.result Taken) c.self.view_is,
    )
