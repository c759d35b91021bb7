use Rattle.std.proofs.Common.{map}
use Rattle.std.specs.Arc.{arc_value}
use Rattle.basis_entry.specs.Entries.{AreOf}
use Rattle.basis_entry.proofs.tests.list.Given as goal

abbrev pub invariant-loop-entry : goal.invariant-loop-entry
invariant-loop-entry l = AreOf (arc_value l.p) (map arc_value l.list.items)
