use Rattle.formal_sums.proofs.Integers.{*ℤ_assoc}
use Rattle.formal_sums.proofs.laws.products_associate.Goals as goal

pub returns : goal.returns
returns c = *ℤ_assoc
