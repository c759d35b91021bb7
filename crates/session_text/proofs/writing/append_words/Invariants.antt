use Rattle.std.proofs.Common.{◌++◌, map, drop, codes, length}
use Rattle.std.specs.List.{AllByRecursion}
use Rattle.free_words.specs.Words.{IsOver}
use Rattle.presentation.specs.Writing.{joined, written_word}
use Rattle.presentation.proofs.WritingSteps.{Left}
use Rattle.session_text.proofs.writing.append_words.Given as goal

abbrev pub invariant-loop-word : goal.invariant-loop-word
invariant-loop-word l = record {
  text : Left (written_word l.p.names) (codes ", ") l.out.items (drop l.word-index l.others)
      (l.fn.out.items ++ joined (codes ", ") (map (written_word l.p.names) l.words));
  over : AllByRecursion (IsOver (length l.p.names)) (drop l.word-index l.others);
}
