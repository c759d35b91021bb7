use Rattle.strong_pairs.proofs.Determination.{closed_from_start}
use Rattle.strong_pairs.proofs.laws.starts_close_tasks.Goals as goal

pub returns : goal.returns
returns c = closed_from_start
