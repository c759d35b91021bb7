use Rattle.derivation.proofs.Reaching.{reaches_on}
use Rattle.derivation.proofs.laws.reaching.Goals as goal

pub returns-clause-on : goal.returns-clause-on
returns-clause-on c = reaches_on
