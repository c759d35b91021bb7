use Rattle.formal_sums.proofs.Coefficients.{Same-append}
use Rattle.formal_sums.proofs.laws.addition_keeps_equality.Goals as goal

pub returns : goal.returns
returns g c = Same-append
