use Rattle.std.proofs.Common.{sym, subst, ◌≡◌, true}
use Rattle.outcomes.specs.declared.tasks.Task.{Task}
use Rattle.task_table.specs.Tables.{state_of}
use Rattle.pair_book.specs.Books.{Held, IsBook}
use Rattle.pair_book.specs.Chaining.{is_waiting, closed_if, s_task}
use Rattle.pair_book.proofs.Dues.{waiting_still}
use Rattle.pair_book.proofs.book.Book.chain_with.Goals as goal

pub close_if-requires-2-clause-waiting : goal.close_if-requires-2-clause-waiting
close_if-requires-2-clause-waiting c = λ s.
    let h = c.args.self.now in
    let book = c.known.ensures in
    let due = c.is_due-second.ensures.is.0 s in
    let w = waiting_still h c.is_due-first.result c.args.a c.args.b c.args.x book c.requires.first c.requires.second c.requires.third c.requires.apart.0
    c.requires.apart.1 c.requires.apart.2 due.waiting in
    let v = subst (λ (t : Task). is_waiting (state_of (closed_if c.is_due-first.result h t).tasks (s_task c.args.b c.args.x))
    ≡ true) (sym c.s_task_of.ensures) w in
    let u = subst (λ (z : Held). is_waiting (state_of z.tasks (s_task c.args.b c.args.x)) ≡ true) (sym c.close_if.ensures) v in
    subst (λ (t : Task). is_waiting (state_of c.close_if.new.self.tasks t) ≡ true) (sym c.s_task_of-2.ensures) u
