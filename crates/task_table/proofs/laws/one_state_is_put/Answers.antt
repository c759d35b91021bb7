use Rattle.task_table.proofs.Putting.{put_same, put_other}
use Rattle.task_table.proofs.laws.one_state_is_put.Goals as goal

pub returns : goal.returns
returns c = record { here = put_same; elsewhere = put_other }
