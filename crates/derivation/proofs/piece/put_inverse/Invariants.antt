use Rattle.std.proofs.Common.{◌≡◌, ◌++◌, length}
use Rattle.free_words.specs.Words.{inverse}
use Rattle.derivation.proofs.piece.put_inverse.Given as goal

abbrev pub invariant-loop-last : goal.invariant-loop-last
invariant-loop-last l = l.letters.items ++ inverse l.left ≡ l.fn.letters.items ++ inverse l.fn.word

abbrev pub decreases-loop-last : goal.decreases-loop-last
decreases-loop-last l = length l.left
