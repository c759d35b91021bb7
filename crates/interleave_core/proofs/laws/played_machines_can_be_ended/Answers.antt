use Rattle.interleave_core.proofs.Ending.{played}
use Rattle.interleave_core.proofs.laws.played_machines_can_be_ended.Goals as goal

pub returns : goal.returns
returns c = played
