use Rattle.std.proofs.Common.{◌≡◌, ◌++◌, length}
use Rattle.word_text.specs.Program.{word_of}
use Rattle.word_text.specs.Spell.{told, load, AreBelow}
use Rattle.word_text.proofs.spell.spelled.Given as goal

abbrev pub invariant-loop-task : goal.invariant-loop-task
invariant-loop-task l = record {
  so_far : l.letters.items ++ told l.program l.tasks.items ≡ word_of l.program l.word;
  below : AreBelow (length l.program) l.tasks.items;
}

abbrev pub decreases-loop-task : goal.decreases-loop-task
decreases-loop-task l = load l.tasks.items
