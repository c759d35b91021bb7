use Rattle.presentation.proofs.Complete.{text_again}
use Rattle.presentation.proofs.laws.spelled_is_read.Goals as goal

pub returns : goal.returns
returns c = text_again
