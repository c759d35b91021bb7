use Rattle.laurent_terms.proofs.Variables.{degree-variable, variable_is_monomial}
use Rattle.laurent_terms.proofs.monomial.Mono.of_generator.Goals as goal

pub invariant_of-result : goal.invariant_of-result
invariant_of-result c = let at = c.variable_of.result in (degree-variable at c.variable_of.ensures.below, variable_is_monomial at c.variable_of.ensures.below)

pub returns-clause-monomial : goal.returns-clause-monomial
returns-clause-monomial c = variable_is_monomial c.variable_of.result c.variable_of.ensures.below
