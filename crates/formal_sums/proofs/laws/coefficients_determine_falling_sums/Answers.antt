use Rattle.formal_sums.proofs.Falling.{falling_same}
use Rattle.formal_sums.proofs.laws.coefficients_determine_falling_sums.Goals as goal

pub returns : goal.returns
returns g c = λ eq test order. falling_same test order
