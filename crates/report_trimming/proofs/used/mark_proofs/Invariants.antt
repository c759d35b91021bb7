use Rattle.std.proofs.Common.{◌≡◌, ◌⊎◌, ◌<◌, ℕ, List, Some, length}
use Rattle.std.specs.List.{slice_get}
use Rattle.module_vec.specs.declared.steps.Step.{Step}
use Rattle.report_trimming.specs.Kept.{IsMarked}
use Rattle.report_trimming.specs.Used.{Name}
use Rattle.report_trimming.proofs.used.mark_proofs.Given as goal

abbrev pub invariant-loop-steps : goal.invariant-loop-steps
invariant-loop-steps l = record {
  size : length l.marks.items ≡ length l.initial.marks.items;
  set : (j k : ℕ) (ss : List Step) → j < l.steps-index → slice_get l.proofs j ≡ Some ss → Name ss k → IsMarked l.marks.items k;
  kept : (k : ℕ) → IsMarked l.initial.marks.items k → IsMarked l.marks.items k;
  only : (k : ℕ) → IsMarked l.marks.items k → IsMarked l.initial.marks.items k
      ⊎ ((j : ℕ) × (ss : List Step) × (slice_get l.proofs j ≡ Some ss) × Name ss k);
}
