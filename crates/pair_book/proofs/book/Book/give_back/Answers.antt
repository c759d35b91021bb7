use Rattle.std.proofs.Common.{sym, subst, ap, ◌∙◌}
use Rattle.task_table.specs.Tables.{Table, put}
use Rattle.pair_book.specs.Books.{Held, IsBook, IsTaken}
use Rattle.pair_book.specs.Inner.{held_of}
use Rattle.pair_book.proofs.Keeping.{book_given}
use Rattle.pair_book.proofs.book.Book.give_back.Goals as goal

pub invariant_of-self : goal.invariant_of-self
invariant_of-self c =
    let k = subst (λ (h : Held). IsTaken h c.args.task) (sym c.self.view_is) (c.is_taken.ensures.0 c.if-not-is_taken.false) in
    record {
      book = subst (λ (t : Table). IsBook (record (held_of c.self.inside) { tasks = t })) (sym (c.set.ensures
          ∙ ap (put c.self.inside.tasks c.args.task) c.given.ensures)) (book_given (held_of c.self.inside) c.args.task c.args.hard c.self.invariant.book k);
      logged = c.self.invariant.logged;
      room = c.self.invariant.room;
      terms = c.self.invariant.terms;
      steps = c.self.invariant.steps;
    }
