use Rattle.std.proofs.Common.{arith, ◌∙◌, length}
use Rattle.task_table.proofs.Pricing.{task_within, none_below_one}
use Rattle.task_table.proofs.by_cost.cheapest.Goals as goal

pub loop-at-init : goal.loop-at-init
loop-at-init c = record {
  number = c.first_of-task.ensures.number ∙ none_below_one;
  pair = let i = c.first_of-task.ensures.is.0 in let j = c.first_of-task.ensures.is.1 in omega (arith, i, j);
  best = λ u k lt. absurd (omega (arith, lt));
}

pub cheaper-best-requires-clause-task : goal.cheaper-best-requires-clause-task
cheaper-best-requires-clause-task c =
    task_within c.loop-at.task (length c.args.costs.now.profiles) c.loop-at.invariant.pair
    (omega (arith, c.loop-at.invariant.number, c.loop-at-test.true, c.requires.states))

pub following-task-requires-clause-small : goal.following-task-requires-clause-small
following-task-requires-clause-small c =
    let k = task_within c.loop-at.task (length c.args.costs.now.profiles) c.loop-at.invariant.pair
    (omega (arith, c.loop-at.invariant.number, c.loop-at-test.true, c.requires.states)) in
    let k1 = k.1 in omega (arith, k1, c.requires.few)
