use Rattle.std.proofs.Common.{take}
use Rattle.module_vec.specs.Scanning.{FindsCandidate}
use Rattle.module_vec.proofs.lists.VecList.find.Given as goal

abbrev pub invariant-loop-i : goal.invariant-loop-i
invariant-loop-i g l = FindsCandidate (take l.i (g.Self.VecList.vectors l.self)) l.at l.best
