use Rattle.std.proofs.Common.{◌++◌, map, drop, codes, length}
use Rattle.std.specs.List.{AllByRecursion}
use Rattle.presentation.specs.Presented.{IsWritten}
use Rattle.presentation.specs.Writing.{joined, written_word}
use Rattle.presentation.proofs.WritingSteps.{Left}
use Rattle.presentation.proofs.writing.append_relators.Given as goal

abbrev pub invariant-loop-relator : goal.invariant-loop-relator
invariant-loop-relator l = record {
  text : Left (written_word l.p.names) (codes ", ") l.out.items (drop l.relator-index l.others)
      (l.fn.out.items ++ joined (codes ", ") (map (written_word l.p.names) l.relators));
  over : AllByRecursion (IsWritten (length l.p.names)) (drop l.relator-index l.others);
}
