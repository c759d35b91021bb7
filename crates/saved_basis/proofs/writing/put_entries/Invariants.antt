use Rattle.std.proofs.Common.{◌≤◌}
use Rattle.report_lines.specs.Texts.{lines_text}
use Rattle.report_text.specs.Histories.{entry_lines}
use Rattle.report_text.proofs.Written.{Goes}
use Rattle.saved_basis.proofs.Written.{left_from}
use Rattle.saved_basis.proofs.writing.put_entries.Given as goal

abbrev pub invariant-loop-number : goal.invariant-loop-number
invariant-loop-number g l = record {
  text : Goes (g.K.Sink.taken l.fn.out) (lines_text l.p (entry_lines 0 l.items.entries)) (left_from l.p l.items.entries l.number)
      (g.K.Sink.taken l.out);
  later : g.K.Sink.faults l.fn.out ≤ g.K.Sink.faults l.out;
}
