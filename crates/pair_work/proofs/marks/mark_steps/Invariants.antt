use Rattle.std.proofs.Common.{◌≡◌, ◌⊎◌, ◌<◌, ℕ, Some, true, length, Contains}
use Rattle.std.specs.List.{slice_get}
use Rattle.module_vec.specs.declared.steps.Step.{Step}
use Rattle.pair_work.specs.Works.{numbers_of}
use Rattle.pair_work.proofs.marks.mark_steps.Given as goal

abbrev pub invariant-loop-step : goal.invariant-loop-step
invariant-loop-step l = record {
  size : length l.marks.items ≡ length l.initial.marks.items;
  set : (k : ℕ) (s : Step) → k < l.step-index → slice_get l.steps k ≡ Some s → slice_get l.marks.items s.by ≡ Some true;
  kept : (n : ℕ) → slice_get l.initial.marks.items n ≡ Some true → slice_get l.marks.items n ≡ Some true;
  only : (n : ℕ) → slice_get l.marks.items n ≡ Some true → (slice_get l.initial.marks.items n ≡ Some true) ⊎ Contains (numbers_of l.steps) n;
}
