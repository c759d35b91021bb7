use Rattle.pair_book.specs.Inner.{held_of}
use Rattle.pair_book.proofs.Keeping.{book_take}
use Rattle.pair_book.proofs.book.Book.take.Goals as goal

pub invariant_of-self : goal.invariant_of-self
invariant_of-self c = record {
  book = book_take (held_of c.self.inside) c.take.result c.take.new.self c.self.invariant.book c.take.ensures;
  logged = c.self.invariant.logged;
  room = c.self.invariant.room;
  terms = c.self.invariant.terms;
  steps = c.self.invariant.steps;
}
