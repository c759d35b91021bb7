use Rattle.std.proofs.Common.{refl}
use Rattle.report_trimming.specs.Kept.{kept_by}
use Rattle.report_trimming.specs.Trimming.{IsStepRenamed}
use Rattle.report_trimming.proofs.Marking.{got}
use Rattle.report_trimming.proofs.Pairing.{pair_next}
use Rattle.report_trimming.proofs.renaming.renamed_steps.Goals as goal

pub loop-step-preserved : goal.loop-step-preserved
loop-step-preserved c =
    let read = got c.args.steps.now c.loop-step.step-index c.step-item.result c.loop-step-test.true c.step-item.is in
    pair_next (IsStepRenamed (kept_by c.args.kept.now)) c.args.steps.now c.loop-step.step-index c.step-item.result
    (record c.step-item.result { by = c.place.result }) c.loop-step.renamed.items c.push.new.self.items read
    c.loop-step.invariant c.in_ok-push.ensures.items (record { q = refl; t = refl; by = c.place.ensures })
