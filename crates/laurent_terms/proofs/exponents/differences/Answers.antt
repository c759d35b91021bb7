use Rattle.std.proofs.Common.{rules, ap, ◌≡◌}
use Rattle.laurent_terms.specs.Monomials.{quotient}
use Rattle.laurent_terms.proofs.Combining.{is_quotient, sum-quotient, each_from_divides}
use Rattle.laurent_terms.proofs.exponents.differences.Goals as goal

pub returns : goal.returns
returns c =
    let is : c.loop-i.made ≡ quotient c.args.xs.now c.args.ys.now = search (rules, is_quotient) in
    record { is = is; degree = rw is (search (rules, sum-quotient)) }

pub overflow_sub-made : goal.overflow_sub-made
overflow_sub-made c = search (rules, each_from_divides)
