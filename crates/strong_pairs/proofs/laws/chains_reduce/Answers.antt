use Rattle.strong_pairs.proofs.Exactness.{reduced}
use Rattle.strong_pairs.proofs.laws.chains_reduce.Goals as goal

pub returns : goal.returns
returns c = reduced
