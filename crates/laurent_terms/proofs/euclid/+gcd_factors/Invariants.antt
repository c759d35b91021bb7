use Rattle.laurent_terms.proofs.euclid.+gcd_factors.Given as goal

abbrev pub decreases-gcd_factors : goal.decreases-gcd_factors
decreases-gcd_factors l = l.b
