use Rattle.session_text.proofs.TextLaws.{one_value}
use Rattle.session_text.proofs.laws.one_value.Goals as goal

pub returns : goal.returns
returns c = one_value
