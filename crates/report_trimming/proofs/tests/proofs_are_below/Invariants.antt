use Rattle.std.proofs.Common.{◌≡◌, ◌<◌, ℕ, List, Some}
use Rattle.std.specs.List.{slice_get}
use Rattle.module_vec.specs.declared.steps.Step.{Step}
use Rattle.report_trimming.specs.Used.{Name}
use Rattle.report_trimming.proofs.tests.proofs_are_below.Given as goal

abbrev pub invariant-loop-steps : goal.invariant-loop-steps
invariant-loop-steps l = (j k : ℕ) (ss : List Step) → j < l.steps-index → slice_get l.proofs j ≡ Some ss → Name ss k → k < l.count
