use Rattle.std.proofs.Common.{◌≡◌, Some, slice_get, rules}
use Rattle.report_trimming.specs.Kept.{kept_by}
use Rattle.report_trimming.specs.Trimming.{AreStepsRenamed}
use Rattle.report_trimming.proofs.Marking.{got}
use Rattle.report_trimming.proofs.Pairing.{pair_next}
use Rattle.report_trimming.proofs.renaming.renamed_proofs.Goals as goal

pub renamed_steps-requires : goal.renamed_steps-requires
renamed_steps-requires c =
    let read : slice_get c.args.proofs.now c.loop-steps.steps-index ≡ Some c.steps.result.now = search (rules, got) in
    λ k n. c.requires c.loop-steps.steps-index k c.steps.result.now read n

pub loop-steps-preserved : goal.loop-steps-preserved
loop-steps-preserved c =
    let read : slice_get c.args.proofs.now c.loop-steps.steps-index ≡ Some c.steps.result.now = search (rules, got) in
    pair_next (AreStepsRenamed (kept_by c.args.kept.now)) c.args.proofs.now c.loop-steps.steps-index c.steps.result.now c.in_ok-renamed_steps.field-0
    c.loop-steps.renamed c.push.new.self read c.loop-steps.invariant c.in_ok-push.ensures c.in_ok-renamed_steps.ensures
