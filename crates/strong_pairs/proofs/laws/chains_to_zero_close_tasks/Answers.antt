use Rattle.strong_pairs.proofs.Chaining.{closed_by_chain}
use Rattle.strong_pairs.proofs.laws.chains_to_zero_close_tasks.Goals as goal

pub returns : goal.returns
returns c = closed_by_chain
