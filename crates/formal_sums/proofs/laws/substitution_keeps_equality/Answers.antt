use Rattle.formal_sums.proofs.Evaluation.{evaluate-same, sums_additive}
use Rattle.formal_sums.proofs.laws.substitution_keeps_equality.Goals as goal

pub returns : goal.returns
returns g c = λ eq test eq' f. evaluate-same test (sums_additive eq') f
