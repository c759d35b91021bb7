use Rattle.std.proofs.Common.{◌+◌, ◌≤◌, List, drop}
use Rattle.module_vec.specs.declared.steps.Step.{Step}
use Rattle.report_lines.specs.Texts.{lines_text}
use Rattle.session_text.specs.Questions.{subjects}
use Rattle.basis_entry.specs.Items.{vectors_below}
use Rattle.report_text.specs.Answers.{AreProofsOf}
use Rattle.report_text.specs.Histories.{proof_lines}
use Rattle.report_text.proofs.Written.{Goes}
use Rattle.report_text.proofs.showing.put_all.Given as goal

abbrev pub invariant-loop-place : goal.invariant-loop-place
invariant-loop-place g l = record {
  text : (proofs : List (List Step)) → AreProofsOf (vectors_below l.log.entries l.front) (subjects l.q) proofs
      → Goes (g.K.Sink.taken l.fn.out) (lines_text l.log.pres (proof_lines 1 proofs))
      (lines_text l.log.pres (proof_lines (l.place + 1) (drop l.place proofs))) (g.K.Sink.taken l.out);
  later : g.K.Sink.faults l.fn.out ≤ g.K.Sink.faults l.out;
}
