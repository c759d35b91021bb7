use Rattle.std.proofs.Common.{sym, subst, ◌≡◌, length, true}
use Rattle.strong_pairs.specs.Tasks.{IsClosed}
use Rattle.task_table.specs.Tasks.{IsTask}
use Rattle.task_table.specs.Tables.{Table, state_of}
use Rattle.basis_entry.specs.Entries.{vectors_of}
use Rattle.pair_book.specs.Books.{Held, IsBook}
use Rattle.pair_book.specs.Chaining.{is_waiting}
use Rattle.pair_book.specs.Inner.{held_of}
use Rattle.pair_book.proofs.Dues.{book_waiting}
use Rattle.pair_book.proofs.book.Book.close_if.Goals as goal

pub invariant_of-self : goal.invariant_of-self
invariant_of-self c =
    let k = subst (λ (h : Held). IsTask (length h.entries) c.args.task) (sym c.self.view_is) c.requires.task in
    let w = subst (λ (h : Held). is_waiting (state_of h.tasks c.args.task) ≡ true) (sym c.self.view_is) (c.requires.waiting c.if-due.true) in
    let t = subst (λ (h : Held). IsClosed (vectors_of h.entries) c.args.task.kind c.args.task.i c.args.task.j) (sym c.self.view_is)
    (c.requires.closed c.if-due.true) in
    record {
      book = subst (λ (x : Table). IsBook (record (held_of c.self.inside) { tasks = x })) (sym c.set.ensures)
          (book_waiting (held_of c.self.inside) c.args.task c.self.invariant.book k w t);
      logged = c.self.invariant.logged;
      room = c.self.invariant.room;
      terms = c.self.invariant.terms;
      steps = c.self.invariant.steps;
    }
