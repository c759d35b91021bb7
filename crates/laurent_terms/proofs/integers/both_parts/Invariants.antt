use Rattle.std.proofs.Common.{◌≡◌, take}
use Rattle.laurent_terms.specs.Monomials.{monomial_of}
use Rattle.laurent_terms.proofs.integers.both_parts.Given as goal

abbrev pub invariant-loop-g : goal.invariant-loop-g
invariant-loop-g l = l.made ≡ monomial_of (take l.g l.p)
