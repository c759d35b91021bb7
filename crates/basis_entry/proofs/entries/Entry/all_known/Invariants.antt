use Rattle.std.proofs.Common.{map, take}
use Rattle.std.specs.Arc.{arc_value}
use Rattle.std.specs.List.{AllByRecursion}
use Rattle.basis_entry.specs.Entries.{IsBasisEntry}
use Rattle.basis_entry.proofs.entries.Entry.all_known.Given as goal

abbrev pub invariant-loop-entry : goal.invariant-loop-entry
invariant-loop-entry l = AllByRecursion IsBasisEntry (map arc_value (take l.entry-index l.entries))
