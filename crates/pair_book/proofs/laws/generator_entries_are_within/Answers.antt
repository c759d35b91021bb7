use Rattle.pair_book.proofs.Opened.{within}
use Rattle.pair_book.proofs.laws.generator_entries_are_within.Goals as goal

pub returns : goal.returns
returns c = within
