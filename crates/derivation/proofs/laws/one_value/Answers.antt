use Rattle.derivation.proofs.TextLaws.{one_value}
use Rattle.derivation.proofs.laws.one_value.Goals as goal

pub returns : goal.returns
returns c = one_value
