use Rattle.std.proofs.Common.{arith, ◌<◌, ◌≤◌, ◌≡◌, ◌∙◌, length, sym, ap, subst, Some, List}
use Rattle.task_table.specs.declared.profiles.Profile.{Profile}
use Rattle.task_table.specs.declared.states.Wanted.TheVariants.{OpenOnes}
use Rattle.task_table.specs.Keys.{TakesCheapest}
use Rattle.task_table.specs.Tasks.{tasks_below}
use Rattle.task_table.proofs.Counting.{number_within}
use Rattle.task_table.proofs.Pricing.{is_read, found_cheapest, left_queued, passed}
use Rattle.task_table.proofs.by_cost.first_open.Goals as goal

pub bounds-states-number : goal.bounds-states-number
bounds-states-number c =
    let e = ap length c.loop-task.invariant.profiles in
    let w = number_within c.in-Some.task (length c.loop-task.costs.profiles) c.in-Some.ensures.task.0 in
    let s : length c.args.states.now ≡ tasks_below (length c.loop-task.costs.profiles) = c.requires.states ∙ ap tasks_below (sym e) in
    omega (arith, w, c.number.ensures, s)

pub returns-then-is-clause-task : goal.returns-then-is-clause-task
returns-then-is-clause-task c =
    let ps : List Profile = c.args.costs.now.profiles in
    let old = c.loop-task.costs.queue.numbers in
    let states = c.args.states.now in
    let t = c.in-Some.task in
    let few = subst (λ (qs : List Profile). length qs ≤ 4096) c.loop-task.invariant.profiles c.next.ensures.few in
    let takes = subst (λ (qs : List Profile). TakesCheapest qs old (Some t) c.next.new.self.queue.numbers) c.loop-task.invariant.profiles
    c.in-Some.ensures.task in
    let w = number_within t (length ps) takes.0 in
    let lt : c.number.result < length states = omega (arith, w, c.number.ensures, c.requires.states) in
    let opens = is_read OpenOnes states t c.number.result _ c.is.result c.number.ensures lt c.is.ensures ∙ c.if-is.true in
    found_cheapest ps few states t old takes.0 takes.1 c.loop-task.invariant.queued opens

pub returns-then-is-clause-rest : goal.returns-then-is-clause-rest
returns-then-is-clause-rest c =
    let ps : List Profile = c.args.costs.now.profiles in
    let old = c.loop-task.costs.queue.numbers in
    let few = subst (λ (qs : List Profile). length qs ≤ 4096) c.loop-task.invariant.profiles c.next.ensures.few in
    let new = c.next.new.self.queue.numbers in
    let takes = subst (λ (qs : List Profile). TakesCheapest qs old (Some c.in-Some.task) new) c.loop-task.invariant.profiles c.in-Some.ensures.task in
    left_queued ps few c.args.states.now c.in-Some.task old new takes.0 takes.2 c.loop-task.invariant.queued

pub loop-task-preserved : goal.loop-task-preserved
loop-task-preserved c =
    let ps : List Profile = c.args.costs.now.profiles in
    let old = c.loop-task.costs.queue.numbers in
    let new = c.next.new.self.queue.numbers in
    let states = c.args.states.now in
    let t = c.in-Some.task in
    let few = subst (λ (qs : List Profile). length qs ≤ 4096) c.loop-task.invariant.profiles c.next.ensures.few in
    let takes = subst (λ (qs : List Profile). TakesCheapest qs old (Some t) new) c.loop-task.invariant.profiles c.in-Some.ensures.task in
    let w = number_within t (length ps) takes.0 in
    let lt : c.number.result < length states = omega (arith, w, c.number.ensures, c.requires.states) in
    let shut = is_read OpenOnes states t c.number.result _ c.is.result c.number.ensures lt c.is.ensures ∙ c.if-is.false in record {
      profiles = c.next.ensures.same.0 ∙ c.loop-task.invariant.profiles;
      vectors = c.next.ensures.same.1 ∙ c.loop-task.invariant.vectors;
      room = c.next.ensures.room ∙ c.loop-task.invariant.room;
      queued = passed ps few states t old new takes.0 takes.2 c.loop-task.invariant.queued shut;
    }
