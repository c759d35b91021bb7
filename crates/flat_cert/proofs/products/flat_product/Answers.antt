use Rattle.std.proofs.Common.{◌≡◌, sum_by, subst}
use Rattle.std.specs.Prelude.{unsigned_abs}
use Rattle.laurent_terms.specs.Monomials.{product, monomial_of, MadeWithin}
use Rattle.flat_cert.specs.Images.{cancelled}
use Rattle.flat_cert.proofs.Cancelling.{product_cancelled, degree_cancelled}
use Rattle.flat_cert.proofs.products.flat_product.Goals as goal

pub returns-clause-made : goal.returns-clause-made
returns-clause-made c =
    let is : monomial_of c.differences.result ≡ cancelled (product c.args.s.now c.args.t.now) =
    product_cancelled c.differences.result c.args.s.now c.args.t.now c.differences.ensures.whole c.degree.ensures.monomial.variables
    c.degree-2.ensures.monomial.variables c.differences.ensures.each in
    let count = degree_cancelled c.differences.result (cancelled (product c.args.s.now c.args.t.now)) is in
    subst (λ d. MadeWithin d (cancelled (product c.args.s.now c.args.t.now)) c.of_exponents.result) count
    (subst (λ m. MadeWithin (sum_by unsigned_abs c.differences.result) m c.of_exponents.result) is c.of_exponents.ensures.made)
