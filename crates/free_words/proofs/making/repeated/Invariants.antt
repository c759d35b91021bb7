use Rattle.std.proofs.Common.{◌≡◌}
use Rattle.free_words.specs.Words.{copies}
use Rattle.free_words.proofs.making.repeated.Given as goal

abbrev pub invariant-loop-i : goal.invariant-loop-i
invariant-loop-i l = l.letters.items ≡ copies l._i l.base
