use Rattle.std.proofs.Common.{◌≤◌, List}
use Rattle.report_lines.specs.Texts.{lines_text}
use Rattle.report_text.specs.Answers.{AreAnswered}
use Rattle.report_text.specs.Histories.{SessionAnswers, item_lines, told_from}
use Rattle.report_text.proofs.Orders.{told_after}
use Rattle.report_text.proofs.Written.{Goes}
use Rattle.report_text.proofs.entries.put_items.Given as goal

abbrev pub invariant-loop-number : goal.invariant-loop-number
invariant-loop-number g l = record {
  text : (ts : List SessionAnswers) → AreAnswered l.log.pres l.log.entries l.log.seal l.sessions ts
      → Goes (g.K.Sink.taken l.fn.out) (lines_text l.log.pres (told_from ts 0 (item_lines l.log.entries l.log.seal)))
      (lines_text l.log.pres (told_after ts l.log.entries l.log.seal l.number)) (g.K.Sink.taken l.out);
  later : g.K.Sink.faults l.fn.out ≤ g.K.Sink.faults l.out;
}
