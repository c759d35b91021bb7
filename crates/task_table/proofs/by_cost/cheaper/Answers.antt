use Rattle.std.proofs.Common.{arith, ◌<◌, ◌∙◌, length, subst, Option}
use Rattle.outcomes.specs.declared.tasks.Task.{Task}
use Rattle.task_table.specs.Queueing.{FindsCheapestBelow}
use Rattle.task_table.specs.Tasks.{number_of}
use Rattle.task_table.proofs.Counting.{number_within}
use Rattle.task_table.proofs.Pricing.{is_read, first_wanted, stays_cheapest, now_cheapest, not_wanted}
use Rattle.task_table.proofs.by_cost.cheaper.Goals as goal

pub bounds-states-number : goal.bounds-states-number
bounds-states-number c = let w = number_within c.args.task (length c.args.costs.now.profiles) c.requires.task
    in omega (arith, w, c.number.ensures, c.requires.states)

pub returns-in_default : goal.returns-in_default
returns-in_default c =
    let ps = c.args.costs.now.profiles in
    let states = c.args.states.now in
    let w = number_within c.args.task (length ps) c.requires.task in
    let lt : c.number.result < length states = omega (arith, w, c.number.ensures, c.requires.states) in
    first_wanted c.args.wanted ps states c.args.task c.requires.task
    (is_read c.args.wanted states c.args.task c.number.result _ c.is.result c.number.ensures lt c.is.ensures ∙ c.if-not-is.false)
    (subst (λ (b : Option Task). FindsCheapestBelow (number_of c.args.task) c.args.wanted ps states b) c.in_default.is c.requires.best)

pub returns-then-key : goal.returns-then-key
returns-then-key c =
    let ps = c.args.costs.now.profiles in
    stays_cheapest c.args.wanted ps c.args.states.now c.args.task c.requires.task c.in-Some.least
    (omega (arith, c.key.ensures, c.key-2.ensures, c.if-key.true))
    (subst (λ (b : Option Task). FindsCheapestBelow (number_of c.args.task) c.args.wanted ps c.args.states.now b) c.in-Some.is c.requires.best)

pub returns-then-not-is : goal.returns-then-not-is
returns-then-not-is c =
    let ps = c.args.costs.now.profiles in
    let states = c.args.states.now in
    let w = number_within c.args.task (length ps) c.requires.task in
    let lt : c.number.result < length states = omega (arith, w, c.number.ensures, c.requires.states) in
    not_wanted c.args.wanted ps states c.args.task c.requires.task c.args.best
    (is_read c.args.wanted states c.args.task c.number.result _ c.is.result c.number.ensures lt c.is.ensures ∙ c.if-not-is.true) c.requires.best

pub returns : goal.returns
returns c =
    let ps = c.args.costs.now.profiles in
    let states = c.args.states.now in
    let w = number_within c.args.task (length ps) c.requires.task in
    let lt : c.number.result < length states = omega (arith, w, c.number.ensures, c.requires.states) in
    now_cheapest c.args.wanted ps states c.args.task c.requires.task c.in-Some.least
    (omega (arith, c.key.ensures, c.key-2.ensures, c.if-key.false))
    (is_read c.args.wanted states c.args.task c.number.result _ c.is.result c.number.ensures lt c.is.ensures ∙ c.if-not-is.false)
    (subst (λ (b : Option Task). FindsCheapestBelow (number_of c.args.task) c.args.wanted ps states b) c.in-Some.is c.requires.best)
