use Rattle.std.proofs.Common.{length, ◌-◌, ◌≡◌, take, drop}
use Rattle.spelling.specs.Spelling.{cut}
use Rattle.spelling.proofs.Cuts.{fronted}
use Rattle.spelling.proofs.separator.cut.Given as goal

abbrev pub invariant-loop-at : goal.invariant-loop-at
invariant-loop-at l = cut l.separator l.text ≡ fronted (take l.at l.text) (cut l.separator (drop l.at l.text))

abbrev pub decreases-loop-at : goal.decreases-loop-at
decreases-loop-at l = length l.text - l.at
