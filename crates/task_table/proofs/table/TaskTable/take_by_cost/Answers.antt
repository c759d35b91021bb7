use Rattle.std.proofs.Common.{arith, refl, ◌≡◌, ◌<◌, ◌∙◌, ap, sym, subst, length, List, Some, slice_set}
use Rattle.std.proofs.lemmas.List.{length-set}
use Rattle.task_table.specs.declared.order.Order.TheVariants.{ByCost}
use Rattle.task_table.specs.declared.profiles.Profile.{Profile}
use Rattle.task_table.specs.declared.states.TaskState.{TaskState}
use Rattle.task_table.specs.declared.states.TaskState.TheVariants.{Taken}
use Rattle.task_table.specs.declared.states.Wanted.TheVariants.{OpenOnes}
use Rattle.task_table.specs.Inner.{table_of}
use Rattle.task_table.specs.Keys.{AreQueued}
use Rattle.task_table.specs.Queueing.{FindsCheapest, AreQueuedBut}
use Rattle.task_table.specs.Tables.{Table, IsOver, IsLeast, put}
use Rattle.task_table.specs.Tasks.{IsTask, number_of, tasks_below}
use Rattle.task_table.proofs.Counting.{number_within}
use Rattle.task_table.proofs.Pricing.{least_found, put_shut}
use Rattle.task_table.proofs.table.TaskTable.take_by_cost.Goals as goal

pub invariant_of-self-2 : goal.invariant_of-self-2
invariant_of-self-2 c =
    let items = c.self.inside.states.items in
    let ps : List Profile = c.self.inside.costs.profiles in
    let t = c.in_ok-task.task in
    let h : IsTask (length ps) t = c.in_ok-task.ensures.task.task in
    let w = number_within t (length ps) h in
    let n = ap tasks_below c.self.invariant.table.profiles in
    let at : number_of t < length items = omega (arith, w, n, c.self.invariant.table.states) in
    let numbers = c.first_open.new.costs.queue.numbers in
    let others = subst (λ (ss : List TaskState). AreQueuedBut t ps ss numbers) c.deref.ensures.value c.in_ok-task.ensures.rest in
    rw c.number.ensures (record {
      table = record {
        states = length-set items (number_of t) Taken ∙ c.self.invariant.table.states;
        profiles = ap length c.first_open.ensures.same.0 ∙ c.self.invariant.table.profiles;
        within = c.self.invariant.table.within;
        most = c.self.invariant.table.most;
      };
      capacity = c.self.invariant.capacity;
      open_hint = c.after-self-inside.ensures items at c.self.invariant.open_hint;
      unclosed_hint = c.after-self-inside-2.ensures items at c.self.invariant.unclosed_hint;
      costs_capacity = let r = c.first_open.ensures.same.1 in omega (arith, r, c.self.invariant.costs_capacity);
      queued = record {
        tasks = λ by. subst (λ (qs : List Profile). AreQueued qs (slice_set items (number_of t) Taken) numbers) (sym c.first_open.ensures.same.0)
            (put_shut ps items t Taken numbers h at refl others);
        room = λ by. let r = c.self.invariant.queued.room by in omega (arith, r, c.first_open.ensures.room);
      };
    })

pub returns : goal.returns
returns c = λ entries over.
    let t = c.in_ok-task.task in
    let by = subst (λ (x : Table). x.order ≡ ByCost) (sym c.self.view_is) c.requires in
    let finds = subst (λ (ss : List TaskState). FindsCheapest OpenOnes c.self.inside.costs.profiles ss (Some t)) c.deref.ensures.value
    c.in_ok-task.ensures.task in (
      subst (λ (x : Table). IsLeast OpenOnes entries x t) c.self.view_is
          (least_found OpenOnes entries (table_of c.self.inside) (Some t) c.self.invariant.table by (subst (IsOver entries) (sym c.self.view_is) over)
          c.known.ensures.profiles finds),
      (λ k. record (table_of c.self.inside) {
        states = slice_set c.self.inside.states.items (c.number.ensures k) Taken;
        profiles = c.first_open.ensures.same.0 k;
      }) ∙ ap (λ (x : Table). put x t Taken) c.self.view_is,
    )
