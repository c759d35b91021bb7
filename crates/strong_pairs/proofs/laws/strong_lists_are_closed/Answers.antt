use Rattle.strong_pairs.proofs.Converse.{strong_closed}
use Rattle.strong_pairs.proofs.laws.strong_lists_are_closed.Goals as goal

pub returns : goal.returns
returns c = strong_closed
