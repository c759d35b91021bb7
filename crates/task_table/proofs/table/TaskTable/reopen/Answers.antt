use Rattle.std.proofs.Common.{arith, sym, ap, ◌∙◌, ◌≡◌, length, map, drop, take, ◌++◌, subst, List}
use Rattle.std.proofs.lemmas.List.{length-map}
use Rattle.std.proofs.lemmas.List.Sums.{count_by-le-length}
use Rattle.task_table.specs.declared.states.TaskState.{TaskState}
use Rattle.task_table.specs.declared.states.Wanted.TheVariants.{OpenOnes, Unclosed}
use Rattle.task_table.specs.Tasks.{reopened, is_reopened}
use Rattle.task_table.specs.declared.profiles.Profile.{Profile}
use Rattle.task_table.specs.Keys.{AreQueued}
use Rattle.task_table.specs.Inner.{IsHint}
use Rattle.task_table.proofs.Counting.{tasks_few}
use Rattle.task_table.proofs.Hinting.{hint_reopened}
use Rattle.task_table.proofs.Pricing.{room_for}
use Rattle.task_table.proofs.Reading.{written_back}
use Rattle.task_table.proofs.table.TaskTable.reopen.Goals as goal

pub overflow_cast-result : goal.overflow_cast-result
overflow_cast-result c =
    let t = c.self.invariant.table in
    let m = count_by-le-length (is_reopened c.args.from) c.deref_mut.result.now in
    let few = tasks_few c.self.inside.count (omega (arith, t.within, t.most)) in
    omega (arith, m, few, c.reopen_all-count.ensures.count, t.states, c.deref_mut.ensures.len)

pub invariant_of-self : goal.invariant_of-self
invariant_of-self c =
    let f = reopened c.args.from in
    let items = c.self.inside.states.items in
    let new = c.reopen_all-count.new.states in
    let changed : new ≡ map f items = c.reopen_all-count.ensures.changed ∙ ap (map f) c.deref_mut.ensures.value in
    let n : c.self.inside.states.len ≡ length new = sym (ap length c.reopen_all-count.ensures.changed
    ∙ (length-map c.deref_mut.result.now f ∙ c.deref_mut.ensures.len)) in
    let e = written_back c.self.inside.states.len new (drop (length new) items) n ∙ changed in
    let h = hint_reopened c.args.from items c.self.inside.unclosed_hint c.self.invariant.unclosed_hint in
    record {
      table = record {
        states = ap length e ∙ (length-map items f ∙ c.self.invariant.table.states);
        profiles = ap length c.queue_anew.ensures.same.0 ∙ c.self.invariant.table.profiles;
        within = c.self.invariant.table.within;
        most = c.self.invariant.table.most;
      };
      capacity = c.self.invariant.capacity;
      open_hint = subst (λ (ss : List TaskState). IsHint OpenOnes ss c.self.inside.unclosed_hint) (sym e) h.1;
      unclosed_hint = subst (λ (ss : List TaskState). IsHint Unclosed ss c.self.inside.unclosed_hint) (sym e) h.0;
      costs_capacity = let z = c.queue_anew.ensures.same.1 in omega (arith, z, c.self.invariant.costs_capacity);
      queued = record {
        tasks = λ by. subst (λ (qs : List Profile). AreQueued qs (take c.self.inside.states.len (new ++ drop (length new) items))
            c.queue_anew.new.costs.queue.numbers)
            (sym c.queue_anew.ensures.same.0)
            (subst (λ (ss : List TaskState). AreQueued c.self.inside.costs.profiles ss c.queue_anew.new.costs.queue.numbers) c.deref.ensures.value
            (c.queue_anew.ensures.queued by));
        room = λ by. let z = c.self.invariant.queued.room by in omega (arith, z, c.queue_anew.ensures.room);
      };
    }

pub queue_anew-requires-clause-room : goal.queue_anew-requires-clause-room
queue_anew-requires-clause-room c = λ by.
    room_for (length c.self.inside.costs.profiles) c.self.inside.count c.self.inside.room c.self.invariant.table.profiles c.self.invariant.table.within
    c.self.inside.costs.queue.room (c.self.invariant.queued.room by)
