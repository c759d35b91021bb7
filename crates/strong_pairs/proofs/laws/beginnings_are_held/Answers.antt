use Rattle.strong_pairs.proofs.Determination.{begins_holds}
use Rattle.strong_pairs.proofs.laws.beginnings_are_held.Goals as goal

pub returns : goal.returns
returns c = begins_holds
