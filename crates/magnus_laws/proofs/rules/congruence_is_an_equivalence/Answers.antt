use Rattle.magnus_laws.proofs.Members.{congruent_on}
use Rattle.magnus_laws.proofs.rules.congruence_is_an_equivalence.Goals as goal

pub returns-clause-on : goal.returns-clause-on
returns-clause-on c = congruent_on
