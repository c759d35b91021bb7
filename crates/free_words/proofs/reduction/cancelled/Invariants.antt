use Rattle.std.proofs.Common.{◌≤◌, ◌++◌, List, length, drop}
use Rattle.free_words.specs.declared.letter.Letter.{Letter}
use Rattle.free_words.specs.Words.{IsReduced, Cancels}
use Rattle.free_words.proofs.reduction.cancelled.Given as goal

abbrev pub invariant-loop-l : goal.invariant-loop-l
invariant-loop-l l = record {
  reduced : IsReduced l.letters.items;
  same : (w : List Letter) → Cancels (l.letters.items ++ drop l.l-index l.word) w → Cancels l.word w;
  no_longer : length l.letters.items ≤ l.l-index;
}
