use Rattle.std.proofs.Common.{◌≡◌, take, map}
use Rattle.free_words.specs.Words.{word_image}
use Rattle.cert_checker.proofs.subjects.images_of.Given as goal

abbrev pub invariant-loop-word : goal.invariant-loop-word
invariant-loop-word l = l.made.items ≡ map (word_image l.images) (take l.word-index l.words)
