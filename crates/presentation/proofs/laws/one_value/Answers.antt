use Rattle.std.proofs.Common.{sym, ◌∙◌}
use Rattle.presentation.proofs.Steps.{ok_is}
use Rattle.presentation.proofs.Complete.{text_again}
use Rattle.presentation.proofs.laws.one_value.Goals as goal

pub returns : goal.returns
returns c = λ text p q g h. ok_is p q (sym (text_again text p g) ∙ text_again text q h)
