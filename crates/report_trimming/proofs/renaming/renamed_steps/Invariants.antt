use Rattle.std.proofs.Common.{take}
use Rattle.report_trimming.specs.Kept.{kept_by}
use Rattle.report_trimming.specs.Trimming.{AreStepsRenamed}
use Rattle.report_trimming.proofs.renaming.renamed_steps.Given as goal

abbrev pub invariant-loop-step : goal.invariant-loop-step
invariant-loop-step l = AreStepsRenamed (kept_by l.kept) (take l.step-index l.steps) l.renamed.items
