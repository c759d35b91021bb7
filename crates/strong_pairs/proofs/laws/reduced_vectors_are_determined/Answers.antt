use Rattle.strong_pairs.proofs.Exactness.{same_reduced}
use Rattle.strong_pairs.proofs.laws.reduced_vectors_are_determined.Goals as goal

pub returns : goal.returns
returns c = same_reduced
