use Rattle.formal_sums.proofs.Evaluation.{coefficient-rename}
use Rattle.formal_sums.proofs.laws.coefficients_of_renamed_sums.Goals as goal

pub returns : goal.returns
returns g c = coefficient-rename
