use Rattle.word_text.proofs.Again.{text_again}
use Rattle.word_text.proofs.laws.spelled_is_read.Goals as goal

pub returns : goal.returns
returns c = text_again
