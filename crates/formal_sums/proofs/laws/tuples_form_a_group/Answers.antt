use Rattle.formal_sums.proofs.IntegerTuples.{plus_assoc, plus_comm, none-plus, minus-plus, tuple_test}
use Rattle.formal_sums.proofs.laws.tuples_form_a_group.Goals as goal

pub returns-clause-associative : goal.returns-clause-associative
returns-clause-associative c = plus_assoc

pub returns-clause-commutative : goal.returns-clause-commutative
returns-clause-commutative c = plus_comm

pub returns-clause-neutral : goal.returns-clause-neutral
returns-clause-neutral c = none-plus

pub returns-clause-inverse : goal.returns-clause-inverse
returns-clause-inverse c = minus-plus

pub returns-clause-decided : goal.returns-clause-decided
returns-clause-decided c = tuple_test
