use Rattle.task_table.proofs.Putting.{same_number}
use Rattle.task_table.proofs.laws.numbers_are_apart.Goals as goal

pub returns : goal.returns
returns c = same_number
