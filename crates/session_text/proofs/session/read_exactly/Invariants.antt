use Rattle.std.proofs.Common.{◌≡◌, length, All}
use Rattle.word_text.specs.Machine.{finding}
use Rattle.session_text.specs.declared.question.Question.{Question}
use Rattle.session_text.specs.Questions.{IsWrittenQuestion, HasImages}
use Rattle.session_text.specs.Reading.{session_text}
use Rattle.session_text.proofs.SessionLines.{from_here}
use Rattle.session_text.proofs.session.read_exactly.Given as goal

abbrev pub invariant-loop-asked : goal.invariant-loop-asked
invariant-loop-asked l = record {
  so_far : session_text l.p l.text ≡ from_here (finding (l.p).names) l.number l.asked l.rest;
  written : All (λ (q : Question). IsWrittenQuestion l.p q × HasImages q) l.asked;
}

abbrev pub decreases-loop-asked : goal.decreases-loop-asked
decreases-loop-asked l = length l.rest
