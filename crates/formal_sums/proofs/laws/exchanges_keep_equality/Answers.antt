use Rattle.formal_sums.proofs.Coefficients.{Same-permutation}
use Rattle.formal_sums.proofs.laws.exchanges_keep_equality.Goals as goal

pub returns : goal.returns
returns g c = Same-permutation
