use Rattle.pair_book.proofs.Growing.{lawful_grows}
use Rattle.pair_book.proofs.laws.lawful_logs_grow.Goals as goal

pub returns : goal.returns
returns c = lawful_grows
