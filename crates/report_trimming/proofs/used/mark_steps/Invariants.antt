use Rattle.std.proofs.Common.{◌≡◌, ◌⊎◌, ◌<◌, ℕ, Some, length}
use Rattle.std.specs.List.{slice_get}
use Rattle.module_vec.specs.declared.steps.Step.{Step}
use Rattle.report_trimming.specs.Kept.{IsMarked}
use Rattle.report_trimming.specs.Used.{Name}
use Rattle.report_trimming.proofs.used.mark_steps.Given as goal

abbrev pub invariant-loop-step : goal.invariant-loop-step
invariant-loop-step l = record {
  size : length l.marks.items ≡ length l.initial.marks.items;
  set : (i : ℕ) (s : Step) → i < l.step-index → slice_get l.steps i ≡ Some s → IsMarked l.marks.items s.by;
  kept : (k : ℕ) → IsMarked l.initial.marks.items k → IsMarked l.marks.items k;
  only : (k : ℕ) → IsMarked l.marks.items k → IsMarked l.initial.marks.items k ⊎ Name l.steps k;
}
