use Rattle.std.proofs.Common.{◌≡◌, ◌≤◌, Some, length, slice_get, rules, arith, ◌∙◌}
use Rattle.report_trimming.specs.Kept.{IsMarked}
use Rattle.report_trimming.proofs.Marking.{names_below, within, got, step_named, proofs_next, proofs_only}
use Rattle.report_trimming.proofs.used.mark_proofs.Goals as goal

pub mark_steps-requires : goal.mark_steps-requires
mark_steps-requires c =
    let read : slice_get c.args.proofs.now c.loop-steps.steps-index ≡ Some c.steps.result.now = search (rules, got) in
    names_below (length c.loop-steps.marks.items) c.steps.result.now
    (λ k n. let l = c.requires c.loop-steps.steps-index k c.steps.result.now read n in let e = c.loop-steps.invariant.size in omega (arith, l, e))

pub loop-steps-preserved : goal.loop-steps-preserved
loop-steps-preserved c =
    let read : slice_get c.args.proofs.now c.loop-steps.steps-index ≡ Some c.steps.result.now = search (rules, got) in
    record {
      size = c.mark_steps.ensures.length ∙ c.loop-steps.invariant.size;
      set = proofs_next (IsMarked c.loop-steps.marks.items)
          (IsMarked c.mark_steps.new.marks.items) c.mark_steps.ensures.kept c.args.proofs.now c.loop-steps.steps-index
          c.steps.result.now read c.loop-steps.invariant.set
          (step_named c.mark_steps.new.marks.items c.steps.result.now c.mark_steps.ensures.set);
      kept = λ k h. c.mark_steps.ensures.kept k (c.loop-steps.invariant.kept k h);
      only = proofs_only c.args.marks.now.items c.loop-steps.marks.items c.mark_steps.new.marks.items c.args.proofs.now c.loop-steps.steps-index
          c.steps.result.now read c.loop-steps.invariant.only c.mark_steps.ensures.only;
    }

pub returns-clause-set : goal.returns-clause-set
returns-clause-set c = λ j k steps is n.
    let le : length c.args.proofs.now ≤ c.loop-steps.steps-index = search rules in
    let lt = within c.args.proofs.now j steps is in
    c.loop-steps.invariant.set j k steps (omega (arith, le, lt)) is n
