use Rattle.std.proofs.Common.{arith, sym, subst, ◌+◌}
use Rattle.strong_pairs.specs.Tasks.{IsClosed}
use Rattle.task_table.specs.Tables.{Table}
use Rattle.basis_entry.specs.Entries.{vectors_of}
use Rattle.pair_book.specs.Books.{Held, IsBook}
use Rattle.pair_book.specs.Commits.{MayCommit}
use Rattle.pair_book.specs.Inner.{held_of}
use Rattle.pair_book.proofs.Bounds.{commits_few}
use Rattle.pair_book.proofs.Growing.{book_closed}
use Rattle.pair_book.proofs.book.Book.close.Goals as goal

pub overflow_add-commits : goal.overflow_add-commits
overflow_add-commits c = omega (arith, commits_few (held_of c.self.inside) c.self.invariant.book)

pub invariant_of-self : goal.invariant_of-self
invariant_of-self c =
    let may = subst (λ (h : Held). MayCommit h c.args.task) (sym c.self.view_is) c.requires.may in
    let truly = subst (λ (h : Held). IsClosed (vectors_of h.entries) c.args.task.kind c.args.task.i c.args.task.j) (sym c.self.view_is) c.requires.truly in
    record {
      book = subst (λ (t : Table). IsBook (record (held_of c.self.inside) { tasks = t; commits = c.self.inside.commits + 1 })) (sym c.set.ensures)
          (book_closed (held_of c.self.inside) c.args.task c.self.invariant.book may truly);
      logged = c.self.invariant.logged;
      room = c.self.invariant.room;
      terms = c.self.invariant.terms;
      steps = c.self.invariant.steps;
    }
