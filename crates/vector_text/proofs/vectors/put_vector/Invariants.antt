use Rattle.std.proofs.Common.{◌++◌, drop, codes, length}
use Rattle.std.specs.List.{AllByRecursion}
use Rattle.module_vec.specs.Vectors.{IsTerm}
use Rattle.presentation.proofs.WritingSteps.{Left}
use Rattle.vector_text.specs.Spelling.{term_text, vector_text}
use Rattle.vector_text.specs.Over.{VectorIsOver}
use Rattle.vector_text.proofs.vectors.put_vector.Given as goal

abbrev pub invariant-loop-t : goal.invariant-loop-t
invariant-loop-t l = record {
  text : Left (term_text l.p.names) (codes " ") l.out.items (drop l.t-index l.others) (l.fn.out.items ++ vector_text l.p.names l.v);
  over : VectorIsOver (length l.p.names) (drop l.t-index l.others);
  terms : AllByRecursion IsTerm (drop l.t-index l.others);
}
