use Rattle.std.proofs.Common.{◌≡◌, length, All}
use Rattle.word_text.specs.Machine.{finding}
use Rattle.derivation.specs.Making.{IsInsertOver}
use Rattle.derivation.specs.declared.moves.Move.{Move}
use Rattle.derivation.specs.Reading.{derivation_text, fronted}
use Rattle.derivation.proofs.Lines.{from_here}
use Rattle.derivation.proofs.reading.read_exactly.Given as goal

abbrev pub invariant-loop-moves : goal.invariant-loop-moves
invariant-loop-moves l = record {
  so_far : derivation_text l.p l.text ≡ fronted l.moves.items (from_here (finding (l.p).names) l.number l.rest);
  over : All (λ (m : Move). IsInsertOver l.p m.what) l.moves.items;
}

abbrev pub decreases-loop-moves : goal.decreases-loop-moves
decreases-loop-moves l = length l.rest
