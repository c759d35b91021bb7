use Rattle.pair_work.proofs.Transport.{closed_grows}
use Rattle.pair_work.proofs.laws.closed_tasks_stay_closed.Goals as goal

pub returns : goal.returns
returns c = closed_grows
