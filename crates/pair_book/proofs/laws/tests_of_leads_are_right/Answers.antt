use Rattle.pair_book.proofs.Opened.{settled_right, settled_apart}
use Rattle.pair_book.proofs.laws.tests_of_leads_are_right.Goals as goal

pub returns : goal.returns
returns c = record { pair = settled_right; other = settled_apart }
