use Rattle.std.proofs.Common.{◌≡◌, false, sym, subst}
use Rattle.std.specs.Arc.{arc_value}
use Rattle.task_table.specs.declared.states.Reopened.TheVariants.{HardOnes}
use Rattle.task_table.specs.Tables.{reopen}
use Rattle.pair_book.specs.Books.{Held}
use Rattle.completion_solo.specs.Rounds.{IsReady}
use Rattle.completion_solo.proofs.Composing.{round_on, due_now, none_taken_now}
use Rattle.completion_solo.proofs.Ending.{unsealed_open, opened_again}
use Rattle.completion_solo.proofs.Numbers.{not_both}
use Rattle.completion_solo.proofs.Taking.{took}
use Rattle.completion_solo.proofs.rounds.one_round.Goals as goal

pub spent-requires-clause-spent : goal.spent-requires-clause-spent
spent-requires-clause-spent c = c.is_spent.ensures.is.0 c.if-is_spent.true

pub work_taken-requires-clause-due : goal.work_taken-requires-clause-due
work_taken-requires-clause-due c =
    let h : Held = c.args.book.now in
    let b = c.is_spent.ensures.book in
    let k = took h c.take.new.self c.in-Some.task b c.requires.none_taken
    ((λ e. not_both c.is_spent.result (c.is_spent.ensures.is.1 e) c.if-is_spent.false), unsealed_open h b c.in-Some.task c.take.new.self c.in-Some.ensures)
    c.in-Some.ensures in
    due_now (arc_value c.args.p.now) h c.take.new.self c.in-Some.task c.args.index.now c.args.stale k c.requires

pub returns-in-Some : goal.returns-in-Some
returns-in-Some c =
    let h : Held = c.args.book.now in
    let b = c.is_spent.ensures.book in
    let k = took h c.take.new.self c.in-Some.task b c.requires.none_taken
    ((λ e. not_both c.is_spent.result (c.is_spent.ensures.is.1 e) c.if-is_spent.false), unsealed_open h b c.in-Some.task c.take.new.self c.in-Some.ensures)
    c.in-Some.ensures in
    round_on (arc_value c.args.p.now) h c.take.new.self c.work_taken.new.book c.in-Some.task c.args.stale c.work_taken.result c.work_taken.new.index k
    c.work_taken.ensures

pub returns-then-stale : goal.returns-then-stale
returns-then-stale c =
    let h : Held = c.args.book.now in
    let new : Held = c.soften.new.self in
    rw c.if-stale.true (opened_again (arc_value c.args.p.now) h new c.args.index.now c.is_spent.ensures.book c.requires.source c.requires.none_taken
    c.requires.are_leads
    (subst (λ (x : Held). new ≡ record x { tasks = reopen HardOnes x.tasks }) (none_taken_now h c.take.new.self c.in_default.ensures)
    c.soften.ensures.new))

pub stopped-requires-clause-ready : goal.stopped-requires-clause-ready
stopped-requires-clause-ready c =
    subst (λ (h : Held). IsReady (arc_value c.args.p.now) h c.args.index.now false) (sym (none_taken_now c.args.book.now c.take.new.self c.in_default.ensures))
    (subst (IsReady (arc_value c.args.p.now) c.args.book.now c.args.index.now) c.if-stale.false c.requires)
