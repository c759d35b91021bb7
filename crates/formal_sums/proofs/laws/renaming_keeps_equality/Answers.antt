use Rattle.formal_sums.proofs.Evaluation.{Same-rename}
use Rattle.formal_sums.proofs.laws.renaming_keeps_equality.Goals as goal

pub returns : goal.returns
returns g c = λ eq test eq' f. Same-rename test eq' f
