use Rattle.std.proofs.Common.{arith, sym, ap, ◌≡◌, ◌<◌, ◌+◌, ◌++◌, ◌∷◌, [], ◌∙◌, length, length-append, subst, List}
use Rattle.task_table.specs.declared.states.TaskState.{TaskState}
use Rattle.task_table.specs.declared.states.Wanted.TheVariants.{OpenOnes, Unclosed}
use Rattle.task_table.specs.declared.profiles.Profile.{Profile}
use Rattle.task_table.specs.Keys.{Costed, AreQueued}
use Rattle.task_table.specs.Profiles.{profile_of}
use Rattle.task_table.specs.Queueing.{AreQueuedBelow}
use Rattle.task_table.specs.Tasks.{tasks_below}
use Rattle.task_table.specs.Rows.{row_states}
use Rattle.task_table.specs.Tables.{Table}
use Rattle.task_table.specs.Inner.{IsHint}
use Rattle.task_table.proofs.Counting.{tasks_below_next, tasks_below_grow}
use Rattle.task_table.proofs.Hinting.{hint_append}
use Rattle.task_table.proofs.Pricing.{still_queued}
use Rattle.task_table.proofs.Pushing.{row_length}
use Rattle.task_table.proofs.table.TaskTable.push.Goals as goal

pub push_row-requires-clause-room : goal.push_row-requires-clause-room
push_row-requires-clause-room g c =
    let P : Table → Type 0 = λ t. t.count < t.room in let k = subst P (sym c.self.view_is) c.requires.room in
    let n = tasks_below_next c.self.inside.count in
    let l = tasks_below_grow (c.self.inside.count + 1) c.self.inside.room (omega (arith, k)) in
    omega (arith, n, l, c.self.invariant.table.states, c.self.invariant.capacity)

pub invariant_of-self : goal.invariant_of-self
invariant_of-self g c =
    let P : Table → Type 0 = λ t. t.count < t.room in let k = subst P (sym c.self.view_is) c.requires.room in
    let Q : Table → Type 0 = λ t. length (g.R.Row.settled c.args.row.now) ≡ t.count in let m = subst Q (sym c.self.view_is) c.requires.row in
    let row = row_states (g.R.Row.settled c.args.row.now) in
    let n = tasks_below_next c.self.inside.count in
    let r = row_length (g.R.Row.settled c.args.row.now) in
    let a = length-append c.self.inside.states.items row in
    let e : c.push_row.new.states.items ≡ c.self.inside.states.items ++ row = c.push_row.ensures.items in
    let l = ap length e in
    let added = ap (λ (z : Costed). z.profiles) c.add.ensures in
    let numbers = c.queue_last.new.costs.queue.numbers in
    record {
      table = record {
        states = omega (arith, n, r, a, l, m, c.self.invariant.table.states);
        profiles = let z = ap length (c.queue_last.ensures.same.0 ∙ added) in
            let b = length-append c.self.inside.costs.profiles (profile_of c.args.vector.now ∷ []) in omega (arith, z, b, c.self.invariant.table.profiles);
        within = omega (arith, k);
        most = c.self.invariant.table.most;
      };
      capacity = omega (arith, c.push_row.ensures.capacity, c.self.invariant.capacity);
      open_hint = subst (λ (ss : List TaskState). IsHint OpenOnes ss c.self.inside.open_hint) (sym e)
          (hint_append OpenOnes c.self.inside.states.items row c.self.inside.open_hint c.self.invariant.open_hint);
      unclosed_hint = subst (λ (ss : List TaskState). IsHint Unclosed ss c.self.inside.unclosed_hint) (sym e)
          (hint_append Unclosed c.self.inside.states.items row c.self.inside.unclosed_hint c.self.invariant.unclosed_hint);
      costs_capacity = let z = c.queue_last.ensures.same.1 in let y = ap (λ (z : Costed). z.room) c.add.ensures in
          omega (arith, z, y, c.self.invariant.costs_capacity);
      queued = record {
        tasks = λ by. subst (λ (qs : List Profile). AreQueued qs c.push_row.new.states.items numbers) (sym c.queue_last.ensures.same.0)
            (subst (λ (ss : List TaskState). AreQueued c.add.new.self.profiles ss numbers) c.deref.ensures.value (c.queue_last.ensures.queued by));
        room = λ by. let z = c.self.invariant.queued.room by in let y = ap (λ (z : Costed). z.queue.room) c.add.ensures in
            omega (arith, z, y, c.queue_last.ensures.room);
      };
    }

pub queue_last-requires-clause-states : goal.queue_last-requires-clause-states
queue_last-requires-clause-states g c =
    let Q : Table → Type 0 = λ t. length (g.R.Row.settled c.args.row.now) ≡ t.count in let m = subst Q (sym c.self.view_is) c.requires.row in
    let row = row_states (g.R.Row.settled c.args.row.now) in
    let n = tasks_below_next c.self.inside.count in
    let r = row_length (g.R.Row.settled c.args.row.now) in
    let a = length-append c.self.inside.states.items row in
    let l = ap length c.push_row.ensures.items in
    let d = ap length c.deref.ensures.value in omega (arith, n, r, a, l, d, m, c.self.invariant.table.states)

pub queue_last-requires-clause-others : goal.queue_last-requires-clause-others
queue_last-requires-clause-others g c = λ by.
    let row = row_states (g.R.Row.settled c.args.row.now) in
    let count = c.self.inside.count in
    let ps : List Profile = c.self.inside.costs.profiles in
    let items = c.self.inside.states.items in
    let still = still_queued ps (profile_of c.args.vector.now) items row c.self.inside.costs.queue.numbers count c.self.invariant.table.profiles
    c.self.invariant.table.states (c.self.invariant.queued.tasks by) in
    let Q : Costed → List TaskState → Type 0 = λ z ss. AreQueuedBelow (tasks_below count) z.profiles ss z.queue.numbers in
    let after : Costed = record c.self.inside.costs { profiles = ps ++ profile_of c.args.vector.now ∷ [] } in
    subst (λ (z : Costed). Q z c.deref.result.now) (sym c.add.ensures)
    (subst (λ (ss : List TaskState). Q after ss) (sym (c.deref.ensures.value ∙ c.push_row.ensures.items)) still)

pub queue_last-requires-clause-room : goal.queue_last-requires-clause-room
queue_last-requires-clause-room g c = λ by.
    let P : Table → Type 0 = λ t. t.count < t.room in let k = subst P (sym c.self.view_is) c.requires.room in
    let y = ap (λ (z : Costed). z.queue.room) c.add.ensures in
    let g2 = tasks_below_grow (c.self.inside.count + 1) c.self.inside.room (omega (arith, k)) in
    let r = c.self.invariant.queued.room by in omega (arith, g2, y, r)
