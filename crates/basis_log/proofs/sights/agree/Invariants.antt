use Rattle.std.proofs.Common.{◌≡◌, take}
use Rattle.basis_log.proofs.sights.agree.Given as goal

abbrev pub invariant-loop-at : goal.invariant-loop-at
invariant-loop-at g l = (l.sights ≡ l.initial.sights) × (l.others ≡ l.initial.others) × (take l.at l.sights ≡ take l.at l.others)
