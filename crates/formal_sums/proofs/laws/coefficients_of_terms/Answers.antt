use Rattle.formal_sums.proofs.Coefficients.{coefficient_own, coefficient_other}
use Rattle.formal_sums.proofs.laws.coefficients_of_terms.Goals as goal

pub returns-clause-own : goal.returns-clause-own
returns-clause-own g c = λ eq test. coefficient_own test

pub returns-clause-other : goal.returns-clause-other
returns-clause-other g c = λ eq test. coefficient_other test
