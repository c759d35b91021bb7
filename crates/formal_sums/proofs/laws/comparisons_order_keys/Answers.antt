use Rattle.formal_sums.proofs.Keys.{cmp_test, cmp_order}
use Rattle.formal_sums.proofs.laws.comparisons_order_keys.Goals as goal

pub returns-clause-test : goal.returns-clause-test
returns-clause-test g c = λ cmp laws exact. cmp_test laws exact

pub returns-clause-order : goal.returns-clause-order
returns-clause-order g c = λ cmp laws exact. cmp_order laws exact
