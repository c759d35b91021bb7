use Rattle.laurent_terms.proofs.Ranks.{mono_cmp-divisor}
use Rattle.laurent_terms.proofs.laws.divisors_stand_below.Goals as goal

pub returns : goal.returns
returns c = mono_cmp-divisor
