use Rattle.std.proofs.Common.{◌≡◌, ◌++◌, replicate}
use Rattle.word_text.specs.Spell.{task}
use Rattle.word_text.proofs.spell.put_copies.Given as goal

abbrev pub invariant-loop-i : goal.invariant-loop-i
invariant-loop-i l = l.tasks.items ≡ replicate l._i (task l.word l.inverted) ++ l.initial.tasks.items
