use Rattle.std.proofs.Common.{◌≡◌, take}
use Rattle.module_vec.specs.Vectors.{sum_of}
use Rattle.fox_calculus.specs.Fox.{fox}
use Rattle.fox_calculus.proofs.LetterTerms.{AreSums}
use Rattle.fox_calculus.proofs.running.letter_terms.Given as goal

abbrev pub invariant-loop-l : goal.invariant-loop-l
invariant-loop-l l = record {
  terms : sum_of l.terms.items ≡ fox (take l.l-index l.word);
  sums : AreSums l.sums (take l.l-index l.word);
}
