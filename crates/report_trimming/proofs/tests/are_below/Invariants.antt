use Rattle.std.proofs.Common.{◌≡◌, ◌<◌, ℕ, Some}
use Rattle.std.specs.List.{slice_get}
use Rattle.module_vec.specs.declared.steps.Step.{Step}
use Rattle.report_trimming.proofs.tests.are_below.Given as goal

abbrev pub invariant-loop-step : goal.invariant-loop-step
invariant-loop-step l = (i : ℕ) (s : Step) → i < l.step-index → slice_get l.steps i ≡ Some s → s.by < l.count
