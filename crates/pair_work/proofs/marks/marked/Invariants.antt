use Rattle.std.proofs.Common.{map}
use Rattle.pair_work.specs.Outcomes.{used_entry}
use Rattle.pair_work.proofs.Marking.{AreMarkedBelow}
use Rattle.pair_work.proofs.marks.marked.Given as goal

abbrev pub invariant-loop-number : goal.invariant-loop-number
invariant-loop-number g l = AreMarkedBelow (g.F.Front.entries l.list) l.marks l.number (map used_entry l.used.items)
