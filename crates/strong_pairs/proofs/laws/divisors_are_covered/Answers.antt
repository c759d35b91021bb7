use Rattle.strong_pairs.proofs.Coverage.{coverage}
use Rattle.strong_pairs.proofs.laws.divisors_are_covered.Goals as goal

pub returns : goal.returns
returns c = coverage
