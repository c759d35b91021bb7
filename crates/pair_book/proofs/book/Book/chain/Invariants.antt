use Rattle.std.proofs.Common.{◌≡◌, length}
use Rattle.pair_book.specs.Chaining.{AreChainedFrom, IsFellow, done_from}
use Rattle.pair_book.proofs.book.Book.chain.Given as goal

abbrev pub invariant-loop-third : goal.invariant-loop-third
invariant-loop-third l = record {
  chained : AreChainedFrom (done_from l.third) l.initial.self l.a l.b l.self;
  entries : length l.self.entries ≡ length l.initial.self.entries;
  fellow : IsFellow l.initial.self.entries l.a l.third;
}

abbrev pub decreases-loop-third : goal.decreases-loop-third
decreases-loop-third l = done_from l.third
