use Rattle.laurent_terms.proofs.Divisors.{next_factors}
use Rattle.laurent_terms.proofs.euclid.+gcd_factors.Goals as goal

pub returns : goal.returns
returns t c = next_factors c.args.a c.args.b c.gcd_factors-inner.result.divisor c.gcd_factors-inner.result.first c.gcd_factors-inner.result.second c.requires.b
    c.gcd_factors-inner.ensures
