use Rattle.laurent_terms.proofs.Combining.{sum-product}
use Rattle.laurent_terms.proofs.Division.{degree-common_multiple}
use Rattle.laurent_terms.proofs.Ranks.{degree-divisor}
use Rattle.laurent_terms.proofs.laws.degrees_add_up.Goals as goal

pub returns : goal.returns
returns c = record { product = sum-product; divisor = degree-divisor; common_multiple = degree-common_multiple }
