use Rattle.chain_rule.proofs.ChainRule.{chain_rule}
use Rattle.chain_rule.proofs.laws.chains_close_tasks.Goals as goal

pub returns : goal.returns
returns c = chain_rule
