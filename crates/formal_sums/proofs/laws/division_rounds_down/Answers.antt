use Rattle.formal_sums.proofs.Floors.{floor_remainder, floor_unique}
use Rattle.formal_sums.proofs.laws.division_rounds_down.Goals as goal

pub returns-clause-remainder : goal.returns-clause-remainder
returns-clause-remainder c = floor_remainder

pub returns-clause-unique : goal.returns-clause-unique
returns-clause-unique c = floor_unique
