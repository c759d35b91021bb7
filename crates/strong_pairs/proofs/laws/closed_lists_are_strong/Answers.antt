use Rattle.strong_pairs.proofs.Criterion.{criterion}
use Rattle.strong_pairs.proofs.laws.closed_lists_are_strong.Goals as goal

pub returns : goal.returns
returns c = criterion
