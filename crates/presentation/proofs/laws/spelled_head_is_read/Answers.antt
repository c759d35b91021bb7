use Rattle.presentation.proofs.Complete.{presentation_again}
use Rattle.presentation.proofs.laws.spelled_head_is_read.Goals as goal

pub returns : goal.returns
returns c = presentation_again
