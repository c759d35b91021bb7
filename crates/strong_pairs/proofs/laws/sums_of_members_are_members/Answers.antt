use Rattle.strong_pairs.proofs.Members.{sum_in}
use Rattle.strong_pairs.proofs.laws.sums_of_members_are_members.Goals as goal

pub returns : goal.returns
returns c = sum_in
