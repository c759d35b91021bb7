use Rattle.strong_pairs.proofs.Determination.{same_steps}
use Rattle.strong_pairs.proofs.laws.pair_steps_are_determined.Goals as goal

pub returns : goal.returns
returns c = same_steps
