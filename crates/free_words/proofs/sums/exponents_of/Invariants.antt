use Rattle.std.proofs.Common.{◌≡◌, ℕ, ◌<◌, pos, length, slice_index_or, take}
use Rattle.free_words.specs.Words.{exponent_sum}
use Rattle.free_words.proofs.sums.exponents_of.Given as goal

abbrev pub invariant-loop-l : goal.invariant-loop-l
invariant-loop-l l = record {
  whole : length l.sums ≡ 24;
  sums : (g : ℕ) → g < 24 → slice_index_or l.sums g (pos 0) ≡ exponent_sum g (take l.l-index l.word);
}
