use Rattle.std.proofs.Common.{◌≡◌, drop}
use Rattle.pair_book.specs.Books.{IsBook}
use Rattle.interleave_core.specs.Opening.{all_given_back}
use Rattle.interleave_core.proofs.Giving.{AreLeft}
use Rattle.interleave_core.proofs.machine.Core.parts.Given as goal

abbrev pub invariant-loop-hand : goal.invariant-loop-hand
invariant-loop-hand l = record {
  given : all_given_back l.book (drop l.hand-index l.hand-items) ≡ all_given_back l.fn.self.book l.fn.self.hands;
  left : AreLeft l.book (drop l.hand-index l.hand-items);
  book : IsBook l.book;
}
