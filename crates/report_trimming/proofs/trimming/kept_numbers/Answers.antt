use Rattle.std.proofs.Common.{◌≡◌, ℕ, List, Some, slice_get, slice_index_or, take, arith, sym, subst, ◌∙◌}
use Rattle.report_trimming.specs.Kept.{kept_by}
use Rattle.report_trimming.specs.Trimming.{Pairwise}
use Rattle.report_trimming.proofs.Marking.{at_index}
use Rattle.report_trimming.proofs.Pairing.{kept_pushed, kept_skipped}
use Rattle.report_trimming.proofs.trimming.kept_numbers.Goals.{then-holds+in_ok-push, else-holds}
use Rattle.report_trimming.proofs.trimming.kept_numbers.Goals as goal

pub loop-at-preserved : goal.loop-at-preserved
loop-at-preserved c = elim c.if-holds.branch [
  | then-holds+in_ok-push w ↦
      kept_pushed (λ k f. slice_get c.args.from.now k ≡ Some f) c.args.kept.now c.loop-at.at (slice_index_or c.args.from.now c.loop-at.at 0)
      c.loop-at.numbers.items c.if-holds.numbers.items (c.holds.ensures.0 w.if-holds.true) c.loop-at.invariant
      ((λ i. (w.numbers-is i).items) ∙ w.in_ok-push.ensures.items) (at_index c.args.from.now c.loop-at.at 0 c.loop-at-test.true)
  | else-holds w ↦
      kept_skipped (λ k f. slice_get c.args.from.now k ≡ Some f) c.args.kept.now c.loop-at.at c.if-holds.numbers.items
      (omega (arith, c.loop-at-test.true, c.requires))
      (λ h. let wrong = sym (c.holds.ensures.1 h) ∙ w.if-holds.false in cc)
      (subst (λ (l : List ℕ). Pairwise (λ k f. slice_get c.args.from.now k ≡ Some f) (kept_by (take c.loop-at.at c.args.kept.now)) l)
      (λ i. (sym w.numbers-is i).items) c.loop-at.invariant)
]
