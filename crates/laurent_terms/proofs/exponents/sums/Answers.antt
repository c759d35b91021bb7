use Rattle.std.proofs.Common.{rules, ap, ◌≡◌}
use Rattle.laurent_terms.specs.Monomials.{product}
use Rattle.laurent_terms.proofs.Combining.{is_product, sum-product}
use Rattle.laurent_terms.proofs.exponents.sums.Goals as goal

pub returns : goal.returns
returns c =
    let is : c.loop-i.made ≡ product c.args.xs.now c.args.ys.now = search (rules, is_product) in
    record { is = is; degree = rw is (search (rules, sum-product)) }
