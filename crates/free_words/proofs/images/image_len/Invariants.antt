use Rattle.std.proofs.Common.{◌≡◌, ◌≤◌, ◌*◌, ◌^◌, length, take}
use Rattle.free_words.specs.Words.{word_image}
use Rattle.free_words.proofs.images.image_len.Given as goal

abbrev pub invariant-loop-l : goal.invariant-loop-l
invariant-loop-l l = record {
  so_far : l.total ≡ length (word_image l.images (take l.l-index l.word));
  bound : l.total ≤ l.l-index * 2 ^ 32;
}
