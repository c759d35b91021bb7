use Rattle.std.proofs.Common.{length, map, string_bytes}
use Rattle.word_text.specs.Powers.{written}
use Rattle.word_text.specs.State.{reading}
use Rattle.word_text.specs.Machine.{word_at, finding}
use Rattle.word_text.proofs.Turning.{Going}
use Rattle.word_text.proofs.machine.word_at.Given as goal

abbrev pub invariant-loop-state : goal.invariant-loop-state
invariant-loop-state l = Going written (finding (map string_bytes l.names)) (word_at (finding (map string_bytes l.names)) l.text) (reading l.state) l.rest

abbrev pub decreases-loop-state : goal.decreases-loop-state
decreases-loop-state l = length l.rest
