use Rattle.formal_sums.proofs.Shortest.{falling_shortest}
use Rattle.formal_sums.proofs.laws.falling_sums_are_shortest.Goals as goal

pub returns : goal.returns
returns g c = λ eq test order. falling_shortest test order
