use Rattle.word_text.proofs.Letters.{word_over}
use Rattle.word_text.proofs.laws.spelled_is_over.Goals as goal

pub returns : goal.returns
returns c = word_over
