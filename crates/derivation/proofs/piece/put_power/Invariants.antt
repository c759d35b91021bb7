use Rattle.std.proofs.Common.{◌≡◌, ◌++◌}
use Rattle.free_words.specs.Words.{commutator, copies}
use Rattle.derivation.proofs.piece.put_power.Given as goal

abbrev pub invariant-loop-i : goal.invariant-loop-i
invariant-loop-i l = l.letters.items ≡ l.fn.letters.items ++ copies l._i (commutator l.a l.b)
