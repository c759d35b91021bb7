use Rattle.std.proofs.Common.{◌≤◌, List, drop, take}
use Rattle.std.specs.List.{AllByRecursion}
use Rattle.report_lines.specs.Texts.{lines_text}
use Rattle.report_text.specs.Answers.{AreAnswered}
use Rattle.report_text.specs.Closing.{HasClosings}
use Rattle.report_text.specs.Histories.{SessionAnswers, closing_of}
use Rattle.report_text.proofs.Written.{Goes}
use Rattle.report_text.proofs.closing.put_closings.Given as goal

abbrev pub invariant-loop-session : goal.invariant-loop-session
invariant-loop-session g l = record {
  text : (ts : List SessionAnswers) → AreAnswered l.log.pres l.log.entries l.log.seal l.sessions ts
      → Goes (g.K.Sink.taken l.fn.out) (lines_text l.log.pres (closing_of ts)) (lines_text l.log.pres (closing_of (drop l.session-index ts)))
      (g.K.Sink.taken l.out);
  told : AllByRecursion (HasClosings l.log.pres l.log.entries l.log.seal) (take l.session-index l.sessions);
  later : g.K.Sink.faults l.fn.out ≤ g.K.Sink.faults l.out;
}
