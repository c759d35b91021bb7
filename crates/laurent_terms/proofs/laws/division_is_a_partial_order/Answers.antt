use Rattle.laurent_terms.proofs.Division.{divides_self, divides_trans, divides_antisym}
use Rattle.laurent_terms.proofs.laws.division_is_a_partial_order.Goals as goal

pub returns : goal.returns
returns c = record { reflexive = divides_self; transitive = divides_trans; antisymmetric = divides_antisym }
