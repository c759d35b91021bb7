use Rattle.laurent_terms.proofs.Descent.{below_well_founded}
use Rattle.laurent_terms.proofs.laws.order_is_well_founded.Goals as goal

pub returns : goal.returns
returns c = below_well_founded
