use Rattle.std.proofs.Common.{◌≡◌, length, ◌-◌}
use Rattle.laurent_terms.specs.declared.TheConstants.{VARIABLES}
use Rattle.laurent_terms.proofs.Combining.{CombinedBelow}
use Rattle.laurent_terms.proofs.exponents.differences.Given as goal

abbrev pub invariant-loop-i : goal.invariant-loop-i
invariant-loop-i l = (length l.made ≡ VARIABLES) × CombinedBelow (λ a b. a - b) l.xs l.ys l.made l.i
