use Rattle.std.proofs.Common.{map}
use Rattle.std.specs.Arc.{arc_value}
use Rattle.basis_entry.specs.Entries.{AreOf}
use Rattle.pair_book.proofs.tests.list.Given as goal

abbrev pub invariant-loop-number : goal.invariant-loop-number
invariant-loop-number l = AreOf (arc_value l.p) (map arc_value l.list.items)
