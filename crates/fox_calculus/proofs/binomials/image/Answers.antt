use Rattle.std.proofs.Common.{ap, ◌∙◌, arith}
use Rattle.laurent_terms.specs.Monomials.{monomial_of}
use Rattle.fox_calculus.proofs.Sums.{sums_are, image_small}
use Rattle.fox_calculus.proofs.binomials.image.Goals as goal

pub unreachable-requires : goal.unreachable-requires
unreachable-requires c =
    let is = sums_are c.exponents.result c.args.w.now c.exponents.ensures.whole c.exponents.ensures.sums in
    omega (arith, c.in-None.ensures.made, image_small c.exponents.result c.args.w.now is c.requires.over c.requires.short)

pub returns-clause-is : goal.returns-clause-is
returns-clause-is c =
    let is = sums_are c.exponents.result c.args.w.now c.exponents.ensures.whole c.exponents.ensures.sums in
    c.in-Some.ensures.made.1 ∙ ap monomial_of is
