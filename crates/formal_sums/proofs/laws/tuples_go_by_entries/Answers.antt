use Rattle.formal_sums.proofs.IntegerTuples.{same_entries, entry-plus, entry-minus, entry-none, entry-one_at}
use Rattle.formal_sums.proofs.laws.tuples_go_by_entries.Goals as goal

pub returns-clause-determined : goal.returns-clause-determined
returns-clause-determined c = same_entries

pub returns-clause-sum : goal.returns-clause-sum
returns-clause-sum c = entry-plus

pub returns-clause-negative : goal.returns-clause-negative
returns-clause-negative c = entry-minus

pub returns-clause-zero : goal.returns-clause-zero
returns-clause-zero c = entry-none

pub returns-clause-generator : goal.returns-clause-generator
returns-clause-generator c = entry-one_at
