use Rattle.std.proofs.Common.{◌≡◌, ◌≤◌, ◌-◌, drop, length, vec_len}
use Rattle.std.specs.List.{AllByRecursion}
use Rattle.word_text.specs.Machine.{finding}
use Rattle.presentation.specs.Presented.{IsWritten}
use Rattle.session_text.specs.Reading.{images_at}
use Rattle.session_text.proofs.ImageTurns.{Going}
use Rattle.session_text.proofs.reading.images.Given as goal

abbrev pub invariant-loop-alloc : goal.invariant-loop-alloc
invariant-loop-alloc l = record {
  so_far : Going (finding l.p.names) l.count (images_at l.count (finding l.p.names) (drop l.fn.reader.at l.fn.reader.text.now)) l.images.items
      (drop l.reader.at l.fn.reader.text.now);
  written : AllByRecursion (IsWritten (length l.p.names)) l.images.items;
  few : length l.images.items ≤ l.count;
  inside : l.reader.at ≤ length l.fn.reader.text.now;
  text : l.reader.text ≡ l.fn.reader.text;
  line : l.reader.line ≡ l.fn.reader.line;
}

abbrev pub decreases-loop-alloc : goal.decreases-loop-alloc
decreases-loop-alloc l = l.count - vec_len l.images
