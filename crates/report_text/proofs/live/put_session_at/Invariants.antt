use Rattle.std.proofs.Common.{◌≡◌, ℕ, ◌+◌, ◌-◌, ◌≤◌, length, drop}
use Rattle.std.specs.Prelude.{slice_get, Some}
use Rattle.report_lines.specs.Texts.{lines_text}
use Rattle.session_core.specs.declared.kept.Kept.{Kept}
use Rattle.report_text.specs.Answers.{IsSessionAnswered}
use Rattle.report_text.specs.Histories.{SessionAnswers, live_from}
use Rattle.report_text.proofs.Written.{Goes}
use Rattle.report_text.proofs.live.put_session_at.Given as goal

abbrev pub invariant-loop-kept : goal.invariant-loop-kept
invariant-loop-kept g l = record {
  first : 1 ≤ l.number;
  within : l.number ≤ length l.session.kept + 1;
  behind : (i : ℕ) (k : Kept) → l.number ≤ i + 1 → slice_get l.session.kept i ≡ Some k → l.front ≤ k.front;
  text : (t : SessionAnswers) → IsSessionAnswered l.log.pres l.log.entries l.log.seal l.session t
      → Goes (g.K.Sink.taken l.fn.out) (lines_text l.log.pres (live_from l.front l.session.number 1 t.answers))
      (lines_text l.log.pres (live_from l.front l.session.number l.number (drop (l.number - 1) t.answers))) (g.K.Sink.taken l.out);
  later : g.K.Sink.faults l.fn.out ≤ g.K.Sink.faults l.out;
}

abbrev pub decreases-loop-kept : goal.decreases-loop-kept
decreases-loop-kept g l = length l.session.kept + 1 - l.number
