use Rattle.std.proofs.Common.{◌≡◌, take}
use Rattle.free_words.specs.Words.{word_image}
use Rattle.free_words.proofs.images.image_of.Given as goal

abbrev pub invariant-loop-l : goal.invariant-loop-l
invariant-loop-l l = l.letters.items ≡ word_image l.images (take l.l-index l.word)
