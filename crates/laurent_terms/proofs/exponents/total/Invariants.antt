use Rattle.std.proofs.Common.{◌≡◌, ◌≤◌, ◌*◌, take}
use Rattle.laurent_terms.specs.Monomials.{degree}
use Rattle.laurent_terms.proofs.exponents.total.Given as goal

abbrev pub invariant-loop-x : goal.invariant-loop-x
invariant-loop-x l = (l.total ≡ degree (take l.x-index l.xs)) × (l.total ≤ l.x-index * 65535)
