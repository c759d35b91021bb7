use Rattle.session_text.proofs.TextLaws.{text_again}
use Rattle.session_text.proofs.laws.spelled_is_read.Goals as goal

pub returns : goal.returns
returns c = text_again
