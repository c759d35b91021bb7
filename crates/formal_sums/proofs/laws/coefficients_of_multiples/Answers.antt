use Rattle.formal_sums.proofs.Coefficients.{coefficient-scale}
use Rattle.formal_sums.proofs.laws.coefficients_of_multiples.Goals as goal

pub returns : goal.returns
returns g c = coefficient-scale
