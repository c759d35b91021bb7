use Rattle.laurent_terms.proofs.Division.{divides-common_multiple}
use Rattle.laurent_terms.proofs.laws.common_multiple_is_least.Goals as goal

pub returns : goal.returns
returns c = divides-common_multiple
