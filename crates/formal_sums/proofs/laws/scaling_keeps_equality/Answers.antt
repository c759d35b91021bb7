use Rattle.formal_sums.proofs.Coefficients.{Same-scale}
use Rattle.formal_sums.proofs.laws.scaling_keeps_equality.Goals as goal

pub returns : goal.returns
returns g c = Same-scale
