use Rattle.strong_pairs.proofs.Exactness.{chain_sum}
use Rattle.strong_pairs.proofs.laws.chains_take_away_their_steps.Goals as goal

pub returns : goal.returns
returns c = chain_sum
