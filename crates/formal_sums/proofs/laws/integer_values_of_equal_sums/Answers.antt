use Rattle.formal_sums.proofs.Evaluation.{evaluate-same, integers_additive}
use Rattle.formal_sums.proofs.laws.integer_values_of_equal_sums.Goals as goal

pub returns : goal.returns
returns g c = λ eq test f. evaluate-same test integers_additive f
