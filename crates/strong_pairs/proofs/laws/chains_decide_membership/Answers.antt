use Rattle.strong_pairs.proofs.Exactness.{empty_for_members}
use Rattle.strong_pairs.proofs.laws.chains_decide_membership.Goals as goal

pub returns : goal.returns
returns c = empty_for_members
