use Rattle.std.proofs.Common.{◌++◌, length, map, codes}
use Rattle.presentation.specs.Writing.{AreOver, runs, led_by, written_run}
use Rattle.presentation.proofs.WritingSteps.{Left}
use Rattle.presentation.proofs.writing.append_more.Given as goal

abbrev pub invariant-loop-run : goal.invariant-loop-run
invariant-loop-run l = record {
  text : Left (written_run l.p.names) (codes " ") l.out.items (runs l.rest) (l.fn.out.items
      ++ led_by (codes " ") (map (written_run l.p.names) (runs l.letters)));
  over : AreOver (length l.p.names) (runs l.rest);
}

abbrev pub decreases-loop-run : goal.decreases-loop-run
decreases-loop-run l = length l.rest
