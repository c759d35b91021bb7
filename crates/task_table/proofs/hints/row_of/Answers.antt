use Rattle.task_table.proofs.Counting.{row_within}
use Rattle.task_table.proofs.hints.row_of.Goals as goal

pub loop-j-init : goal.loop-j-init
loop-j-init c = (c.requires.begins, row_within c.args.from c.args.at c.args.count c.requires.begins c.requires.ends)
