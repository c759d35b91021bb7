use Rattle.std.proofs.Common.{◌++◌, drop, codes, length}
use Rattle.presentation.proofs.WritingSteps.{Left}
use Rattle.step_text.specs.Spelling.{step_text, steps_text}
use Rattle.step_text.specs.Over.{StepsAreOver}
use Rattle.step_text.proofs.list.put_steps.Given as goal

abbrev pub invariant-loop-s : goal.invariant-loop-s
invariant-loop-s l = record {
  text : Left (step_text l.p.names) (codes " ") l.out.items (drop l.s-index l.others) (l.fn.out.items ++ steps_text l.p.names l.steps);
  over : StepsAreOver (length l.p.names) (drop l.s-index l.others);
}
