use Rattle.reduce_cofactor.proofs.Answering.{chain_sum}
use Rattle.reduce_cofactor.proofs.laws.chains_add_up.Goals as goal

pub returns : goal.returns
returns c = chain_sum
