use Rattle.std.proofs.Common.{◌≡◌, ◌⊎◌, ◌↔◌, Some, slice_get, length, arith, sym, ap, subst}
use Rattle.report_trimming.specs.Kept.{IsMarked}
use Rattle.report_trimming.specs.Used.{NamedInProof, IsNeeded}
use Rattle.report_trimming.proofs.Marking.{used_by_marks}
use Rattle.report_trimming.proofs.used.used_entries.Goals as goal

pub mark_replies-requires : goal.mark_replies-requires
mark_replies-requires c = λ k n.
    let lt = c.requires.proofs k (subst (λ rs. NamedInProof rs k) c.replies.ensures n) in
    omega (arith, lt, c.in_ok-marks.ensures.length, ap length c.entries-entries.ensures)

pub mark_recipes-requires-clause-lower : goal.mark_recipes-requires-clause-lower
mark_recipes-requires-clause-lower c = λ j k e is n. c.requires.recipes j k e (subst (λ es. slice_get es j ≡ Some e) c.entries-entries.ensures is) n

pub returns-clause-is : goal.returns-clause-is
returns-clause-is c =
    used_by_marks c.args.report.now c.in_ok-marks.marks.items c.mark_replies.new.marks.items c.mark_recipes.new.marks.items c.in_ok-marks.ensures.none
    (λ k n. c.mark_replies.ensures.set k (subst (λ rs. NamedInProof rs k) (sym c.replies.ensures) n))
    (λ k h. subst (λ rs. IsMarked c.in_ok-marks.marks.items k ⊎ NamedInProof rs k) c.replies.ensures (c.mark_replies.ensures.only k h))
    (λ k. subst (λ es. IsMarked c.mark_recipes.new.marks.items k ↔ IsNeeded (IsMarked c.mark_replies.new.marks.items) es k) c.entries-entries.ensures
    (c.mark_recipes.ensures.is k))
