use Rattle.std.proofs.Common.{◌≤◌, List, drop}
use Rattle.report_lines.specs.Texts.{lines_text}
use Rattle.report_text.specs.Answers.{AreAnswered}
use Rattle.report_text.specs.Histories.{SessionAnswers, live_at}
use Rattle.report_text.proofs.Written.{Goes}
use Rattle.report_text.proofs.live.put_live_at.Given as goal

abbrev pub invariant-loop-session : goal.invariant-loop-session
invariant-loop-session g l = record {
  text : (ts : List SessionAnswers) → AreAnswered l.log.pres l.log.entries l.log.seal l.sessions ts
      → Goes (g.K.Sink.taken l.fn.out) (lines_text l.log.pres (live_at l.front ts)) (lines_text l.log.pres (live_at l.front (drop l.session-index ts)))
      (g.K.Sink.taken l.out);
  later : g.K.Sink.faults l.fn.out ≤ g.K.Sink.faults l.out;
}
