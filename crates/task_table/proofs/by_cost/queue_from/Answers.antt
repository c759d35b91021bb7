use Rattle.std.proofs.Common.{arith, ◌≤◌, ◌+◌, ◌≡◌, ◌∙◌, inl, inr, refl, length, sym, ap, subst, List, true}
use Rattle.task_table.specs.declared.profiles.Profile.{Profile}
use Rattle.task_table.specs.Keys.{key_of}
use Rattle.task_table.specs.Tasks.{IsTask, number_of, tasks_below, is_open}
use Rattle.task_table.specs.Tables.{state_at}
use Rattle.outcomes.specs.declared.tasks.Task.{Task}
use Rattle.std.specs.List.{Contains}
use Rattle.task_table.proofs.Counting.{number_within}
use Rattle.task_table.proofs.Pricing.{task_within, at_number}
use Rattle.task_table.proofs.by_cost.queue_from.Goals as goal

pub loop-at-init : goal.loop-at-init
loop-at-init c = record {
  number = sym c.number-at.ensures;
  pair = c.requires.from;
  profiles = refl;
  vectors = refl;
  room = omega arith;
  count = omega (arith, c.number-at.ensures);
  queued = λ u k lt opens. c.requires.others u k (omega (arith, lt, c.number-at.ensures)) opens;
}

pub queue_if_open-requires-clause-few : goal.queue_if_open-requires-clause-few
queue_if_open-requires-clause-few c = subst (λ (ps : List Profile). length ps ≤ 4096) (sym c.loop-at.invariant.profiles) c.requires.few

pub queue_if_open-requires-clause-states : goal.queue_if_open-requires-clause-states
queue_if_open-requires-clause-states c = c.requires.states ∙ ap (λ (ps : List Profile). tasks_below (length ps)) (sym c.loop-at.invariant.profiles)

pub queue_if_open-requires-clause-task : goal.queue_if_open-requires-clause-task
queue_if_open-requires-clause-task c =
    subst (λ (ps : List Profile). IsTask (length ps) c.loop-at.task) (sym c.loop-at.invariant.profiles)
    (task_within c.loop-at.task (length c.args.costs.now.profiles) c.loop-at.invariant.pair
    (omega (arith, c.loop-at.invariant.number, c.loop-at-test.true, c.requires.states)))

pub queue_if_open-requires-clause-room : goal.queue_if_open-requires-clause-room
queue_if_open-requires-clause-room c = omega (arith, c.loop-at.invariant.count, c.loop-at.invariant.room, c.loop-at-test.true, c.requires.room)

pub following-task-requires-clause-small : goal.following-task-requires-clause-small
following-task-requires-clause-small c =
    let k = task_within c.loop-at.task (length c.args.costs.now.profiles) c.loop-at.invariant.pair
    (omega (arith, c.loop-at.invariant.number, c.loop-at-test.true, c.requires.states)) in
    let k1 = k.1 in omega (arith, k1, c.requires.few)

pub loop-at-preserved : goal.loop-at-preserved
loop-at-preserved c =
    let ps : List Profile = c.args.costs.now.profiles in
    let task = c.loop-at.task in
    let inv = c.loop-at.invariant in
    let added = c.queue_if_open.ensures in record {
      number = c.following-task.ensures.number ∙ ap (λ k. k + 1) inv.number;
      pair = c.following-task.ensures.pair;
      profiles = added.same.0 ∙ inv.profiles;
      vectors = added.same.1 ∙ inv.vectors;
      room = omega (arith, inv.room, added.room);
      count = omega (arith, inv.count, added.count);
      queued = λ u k lt opens. elim (at_number task u c.loop-at.at inv.pair k.0 inv.number lt) [
        | inl l ↦ added.kept (key_of ps u) (inv.queued u k l opens)
        | inr e ↦
            let here : is_open (state_at c.args.states.now (number_of task)) ≡ true =
            ap (λ (z : Task). is_open (state_at c.args.states.now (number_of z))) (sym e) ∙ opens in
            let q = added.queued here in
            subst (λ (z : Task). Contains c.queue_if_open.new.costs.queue.numbers (key_of ps z)) (sym e)
            (subst (λ (qs : List Profile). Contains c.queue_if_open.new.costs.queue.numbers (key_of qs task)) inv.profiles q)
      ];
    }

pub returns-clause-queued : goal.returns-clause-queued
returns-clause-queued c = λ u k opens.
    let w = number_within u (length c.args.costs.now.profiles) k in
    let end = c.loop-at-test.false in
    c.loop-at.invariant.queued u k (omega (arith, w, end, c.requires.states)) opens
