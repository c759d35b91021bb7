use Rattle.std.proofs.Common.{sym, subst}
use Rattle.task_table.specs.declared.states.Reopened.TheVariants.{TakenOnes}
use Rattle.task_table.specs.Tables.{Table}
use Rattle.pair_book.specs.Books.{IsBook}
use Rattle.pair_book.specs.Inner.{held_of}
use Rattle.pair_book.proofs.Keeping.{book_reopened}
use Rattle.pair_book.proofs.book.Book.release.Goals as goal

pub invariant_of-self : goal.invariant_of-self
invariant_of-self c = record {
  book = subst (λ (t : Table). IsBook (record (held_of c.self.inside) { tasks = t })) (sym c.reopen.ensures.new)
      (book_reopened (held_of c.self.inside) TakenOnes c.self.invariant.book);
  logged = c.self.invariant.logged;
  room = c.self.invariant.room;
  terms = c.self.invariant.terms;
  steps = c.self.invariant.steps;
}
