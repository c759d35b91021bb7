use Rattle.std.proofs.Common.{◌≡◌, ◌≤◌, List, length}
use Rattle.free_words.specs.declared.letter.Letter.{Letter}
use Rattle.word_text.specs.Powers.{written, power_of, powers_at}
use Rattle.word_text.proofs.Raising.{Going}
use Rattle.word_text.proofs.powers.powers.Given as goal

abbrev pub invariant-loop-rest : goal.invariant-loop-rest
invariant-loop-rest l = record {
  so_far : (atom : List Letter) → length atom ≡ l.letters
      → Going written l.start (powers_at l.start atom l.text) (power_of l.raise.negative l.raise.times atom) l.rest;
  small : l.raise.times ≤ 16384;
  shorter : length l.rest ≤ length l.text;
}

abbrev pub decreases-loop-rest : goal.decreases-loop-rest
decreases-loop-rest l = length l.rest
