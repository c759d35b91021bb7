use Rattle.std.proofs.Common.{◌≡◌, ◌++◌, length, map}
use Rattle.std.specs.Arc.{arc_value}
use Rattle.std.specs.Vec.Iter.{into_iter_items, into_iter_len}
use Rattle.basis_entry.proofs.Growing.{AreOfGenerators}
use Rattle.basis_entry.proofs.base.generator_entries.Given as goal

abbrev pub invariant-loop-vector : goal.invariant-loop-vector
invariant-loop-vector l = record {
  split : l.yielded ++ into_iter_items l.vector-iterator ≡ into_iter_items l.initial.vector-iterator;
  left : into_iter_len l.vector-iterator ≡ length (into_iter_items l.vector-iterator);
  number : l.number ≡ length l.yielded;
  are : AreOfGenerators (arc_value l.p) l.yielded (map arc_value l.made.items);
}
