use Rattle.std.proofs.Common.{◌≡◌, ◌+◌, drop}
use Rattle.session_text.specs.Questions.{letters_of}
use Rattle.session_text.proofs.letters.letters_of.Given as goal

abbrev pub invariant-loop-word : goal.invariant-loop-word
invariant-loop-word l = l.letters + letters_of (drop l.word-index l.words) ≡ letters_of l.words
