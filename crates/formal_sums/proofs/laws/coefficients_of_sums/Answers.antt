use Rattle.formal_sums.proofs.Coefficients.{coefficient-append}
use Rattle.formal_sums.proofs.laws.coefficients_of_sums.Goals as goal

pub returns : goal.returns
returns g c = coefficient-append
