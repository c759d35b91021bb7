use Rattle.std.proofs.Common.{take}
use Rattle.std.specs.List.{AllByRecursion}
use Rattle.module_vec.specs.Vectors.{IsVector}
use Rattle.flat_making.proofs.making.vectors_known.Given as goal

abbrev pub invariant-loop-entry : goal.invariant-loop-entry
invariant-loop-entry l = AllByRecursion (λ e. IsVector e.vector) (take l.entry-index l.entries)
