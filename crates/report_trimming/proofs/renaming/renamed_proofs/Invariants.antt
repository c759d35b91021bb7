use Rattle.std.proofs.Common.{take}
use Rattle.report_trimming.specs.Kept.{kept_by}
use Rattle.report_trimming.specs.Trimming.{Pairwise, AreStepsRenamed}
use Rattle.report_trimming.proofs.renaming.renamed_proofs.Given as goal

abbrev pub invariant-loop-steps : goal.invariant-loop-steps
invariant-loop-steps l = Pairwise (AreStepsRenamed (kept_by l.kept)) (take l.steps-index l.proofs) l.renamed
