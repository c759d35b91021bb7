use Rattle.std.proofs.Common.{arith, ◌<◌, ◌∙◌, length, sym}
use Rattle.task_table.specs.declared.states.Wanted.TheVariants.{OpenOnes}
use Rattle.task_table.proofs.Counting.{number_within}
use Rattle.task_table.proofs.Pricing.{is_read, queued_before, queued_shut}
use Rattle.task_table.proofs.by_cost.requeue.Goals as goal

pub bounds-states-number : goal.bounds-states-number
bounds-states-number c = let w = number_within c.args.task (length c.args.costs.now.profiles) c.requires.task
    in omega (arith, w, c.number.ensures, c.requires.states)

pub returns-then-is-clause-queued : goal.returns-then-is-clause-queued
returns-then-is-clause-queued c = λ by.
    queued_before c.args.costs.now.profiles c.args.states.now c.args.task c.requires.task c.args.costs.now.queue.numbers
    (c.requires.before by (sym c.is.ensures ∙ c.if-is.true)) (c.requires.others by)

pub returns-else-is-2-clause-queued : goal.returns-else-is-2-clause-queued
returns-else-is-2-clause-queued c = λ by.
    let states = c.args.states.now in
    let w = number_within c.args.task (length c.args.costs.now.profiles) c.requires.task in
    let lt : c.number.result < length states = omega (arith, w, c.number.ensures, c.requires.states) in
    queued_shut c.args.costs.now.profiles states c.args.task c.requires.task c.args.costs.now.queue.numbers
    (is_read OpenOnes states c.args.task c.number.result _ c.is-2.result c.number.ensures lt c.is-2.ensures ∙ c.if-is-2.false) (c.requires.others by)
