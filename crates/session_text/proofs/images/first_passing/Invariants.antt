use Rattle.std.proofs.Common.{[], nat_lt, length, List}
use Rattle.free_words.specs.declared.letter.Letter.{Letter}
use Rattle.free_words.specs.declared.TheConstants.{COMPOSED}
use Rattle.free_words.specs.Words.{word_image}
use Rattle.session_text.proofs.Positions.{NoneBefore}
use Rattle.session_text.proofs.images.first_passing.Given as goal

abbrev pub invariant-loop-j : goal.invariant-loop-j
invariant-loop-j l = NoneBefore (λ (r : List Letter). nat_lt COMPOSED (length (word_image l.images r))) [] l.words l.j
