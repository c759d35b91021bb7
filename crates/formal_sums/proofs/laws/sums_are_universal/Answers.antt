use Rattle.formal_sums.proofs.Evaluation.{evaluate-same, evaluate_extends, evaluate_unique}
use Rattle.formal_sums.proofs.laws.sums_are_universal.Goals as goal

pub returns-clause-well_defined : goal.returns-clause-well_defined
returns-clause-well_defined g c = λ addition laws eq test f. evaluate-same test laws f

pub returns-clause-extends : goal.returns-clause-extends
returns-clause-extends g c = λ addition laws f. evaluate_extends laws f

pub returns-clause-unique : goal.returns-clause-unique
returns-clause-unique g c = λ addition laws f. evaluate_unique laws f
