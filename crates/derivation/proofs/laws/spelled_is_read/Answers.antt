use Rattle.derivation.proofs.TextLaws.{text_again}
use Rattle.derivation.proofs.laws.spelled_is_read.Goals as goal

pub returns : goal.returns
returns c = text_again
