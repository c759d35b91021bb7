use Rattle.std.proofs.Common.{◌≡◌, ℕ, ◌+◌, ◌<◌, ◌≤◌, true, drop}
use Rattle.std.specs.Prelude.{slice_get, Some}
use Rattle.report_lines.specs.Texts.{lines_text}
use Rattle.session_text.specs.declared.question.Question.{Question}
use Rattle.session_core.specs.declared.kept.Kept.{Kept}
use Rattle.report_text.specs.Answers.{IsSessionAnswered}
use Rattle.report_text.specs.Closing.{is_left_open, HasClosing}
use Rattle.report_text.specs.Histories.{SessionAnswers, closing_from}
use Rattle.report_text.proofs.Written.{Goes}
use Rattle.report_text.proofs.closing.put_session.Given as goal

abbrev pub invariant-loop-place : goal.invariant-loop-place
invariant-loop-place g l = record {
  text : (t : SessionAnswers) → IsSessionAnswered l.log.pres l.log.entries l.log.seal l.session t
      → Goes (g.K.Sink.taken l.fn.out) (lines_text l.log.pres (closing_from l.session.number 1 t.answers))
      (lines_text l.log.pres (closing_from l.session.number (l.place + 1) (drop l.place t.answers))) (g.K.Sink.taken l.out);
  told : (i : ℕ) (q : Question) (k : Kept) → i < l.place → slice_get l.session.questions i ≡ Some q → slice_get l.session.kept i ≡ Some k
      → is_left_open k.tag ≡ true
      → HasClosing l.log.pres l.log.entries l.log.seal q;
  later : g.K.Sink.faults l.fn.out ≤ g.K.Sink.faults l.out;
}
