use Rattle.std.proofs.Common.{arith, sym, ap, ◌∙◌, ◌<◌, length, subst, List, slice_set, ℕ}
use Rattle.std.proofs.lemmas.List.{length-set}
use Rattle.task_table.specs.Tasks.{IsTask, number_of, is_open}
use Rattle.task_table.specs.declared.profiles.Profile.{Profile}
use Rattle.task_table.specs.declared.states.TaskState.{TaskState}
use Rattle.task_table.specs.Keys.{AreQueued}
use Rattle.task_table.specs.Queueing.{AreQueuedBut}
use Rattle.task_table.specs.Tables.{Table}
use Rattle.task_table.proofs.Counting.{number_within}
use Rattle.task_table.proofs.Reading.{is_state}
use Rattle.task_table.proofs.Pricing.{room_for, put_but}
use Rattle.task_table.proofs.table.TaskTable.set.Goals as goal

pub index_mut-requires : goal.index_mut-requires
index_mut-requires c =
    let P : Table → Type 0 = λ t. IsTask t.count c.args.task in let k = subst P (sym c.self.view_is) c.requires in
    let w = number_within c.args.task c.self.inside.count k in omega (arith, w, c.number-at.ensures, c.self.invariant.table.states)

pub invariant_of-self : goal.invariant_of-self
invariant_of-self c =
    let P : Table → Type 0 = λ t. IsTask t.count c.args.task in let k = subst P (sym c.self.view_is) c.requires in
    let w = number_within c.args.task c.self.inside.count k in
    let at : number_of c.args.task < length c.self.inside.states.items = omega (arith, w, c.self.invariant.table.states) in
    rw c.number-at.ensures (record {
      table = record {
        profiles = ap length c.requeue.ensures.same.0 ∙ c.self.invariant.table.profiles;
        states = length-set c.self.inside.states.items (number_of c.args.task) c.args.state ∙ c.self.invariant.table.states;
        within = c.self.invariant.table.within;
        most = c.self.invariant.table.most;
      };
      capacity = c.self.invariant.capacity;
      open_hint = c.after-self-inside.ensures c.self.inside.states.items at c.self.invariant.open_hint;
      unclosed_hint = c.after-self-inside-2.ensures c.self.inside.states.items at c.self.invariant.unclosed_hint;
      costs_capacity = let r = c.requeue.ensures.same.1 in omega (arith, r, c.self.invariant.costs_capacity);
      queued =
          let ps : List Profile = c.self.inside.costs.profiles in
          let numbers = c.requeue.new.costs.queue.numbers in
          let items = c.self.inside.states.items in
          let value = c.deref.ensures.value ∙ ap (λ (n : ℕ). slice_set items n c.args.state) c.number-at.ensures in record {
            tasks = λ by. subst (λ (qs : List Profile). AreQueued qs (slice_set items (number_of c.args.task) c.args.state) numbers)
                (sym c.requeue.ensures.same.0)
                (subst (λ (ss : List TaskState). AreQueued ps ss numbers) value (c.requeue.ensures.queued by));
            room = λ by. let r = c.self.invariant.queued.room by in omega (arith, r, c.requeue.ensures.room);
          };
    })

pub index-before-requires : goal.index-before-requires
index-before-requires c =
    let P : Table → Type 0 = λ t. IsTask t.count c.args.task in let k = subst P (sym c.self.view_is) c.requires in
    let w = number_within c.args.task c.self.inside.count k in omega (arith, w, c.number-at.ensures, c.self.invariant.table.states)

pub requeue-requires-clause-others : goal.requeue-requires-clause-others
requeue-requires-clause-others c = λ by.
    let P : Table → Type 0 = λ t. IsTask t.count c.args.task in let k = subst P (sym c.self.view_is) c.requires in
    let ps : List Profile = c.self.inside.costs.profiles in
    let items = c.self.inside.states.items in
    let k0 = k.0 in let k1 = k.1 in
    let h : IsTask (length ps) c.args.task = (k0, omega (arith, k1, c.self.invariant.table.profiles)) in
    let value = c.deref.ensures.value ∙ ap (λ (n : ℕ). slice_set items n c.args.state) c.number-at.ensures in
    subst (λ (ss : List TaskState). AreQueuedBut c.args.task ps ss c.self.inside.costs.queue.numbers) (sym value)
    (put_but ps items c.args.task c.args.state c.self.inside.costs.queue.numbers h (c.self.invariant.queued.tasks by))

pub requeue-requires-clause-before : goal.requeue-requires-clause-before
requeue-requires-clause-before c = λ by opens.
    let P : Table → Type 0 = λ t. IsTask t.count c.args.task in let k = subst P (sym c.self.view_is) c.requires in
    let ps : List Profile = c.self.inside.costs.profiles in
    let items = c.self.inside.states.items in
    let k0 = k.0 in let k1 = k.1 in
    let h : IsTask (length ps) c.args.task = (k0, omega (arith, k1, c.self.invariant.table.profiles)) in
    let w = number_within c.args.task c.self.inside.count k in
    let at : c.number-at.result < length items = omega (arith, w, c.number-at.ensures, c.self.invariant.table.states) in
    let read = is_state items c.args.task c.number-at.result c.index-before.result.now c.number-at.ensures at c.index-before.ensures in
    c.self.invariant.queued.tasks by c.args.task h (ap is_open (sym read) ∙ opens)

pub requeue-requires-clause-room : goal.requeue-requires-clause-room
requeue-requires-clause-room c = λ by.
    room_for (length c.self.inside.costs.profiles) c.self.inside.count c.self.inside.room c.self.invariant.table.profiles c.self.invariant.table.within
    c.self.inside.costs.queue.room (c.self.invariant.queued.room by)
