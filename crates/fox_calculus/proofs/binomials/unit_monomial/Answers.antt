use Rattle.std.proofs.Common.{arith, ◌*◌, ◌+◌, ap}
use Rattle.laurent_terms.specs.Monomials.{degree}
use Rattle.laurent_terms.proofs.Variables.{degree-variable}
use Rattle.fox_calculus.proofs.binomials.unit_monomial.Goals as goal

pub product-requires : goal.product-requires
product-requires c =
    let first = degree-variable (2 * c.args.g) (omega (arith, c.requires)) in
    let second = degree-variable (2 * c.args.g + 1) (omega (arith, c.requires)) in
    omega (arith, ap degree c.of_generator.ensures.is, ap degree c.of_generator-2.ensures.is, first, second)
