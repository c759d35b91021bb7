use Rattle.std.proofs.Common.{◌≡◌, ◌<◌, ℕ, Some}
use Rattle.std.specs.List.{slice_get}
use Rattle.report_reading.specs.declared.entry.EntryData.{EntryData}
use Rattle.report_trimming.specs.Used.{Name, steps_in}
use Rattle.report_trimming.proofs.tests.recipes_are_lower.Given as goal

abbrev pub invariant-loop-number : goal.invariant-loop-number
invariant-loop-number l = (j k : ℕ) (e : EntryData) → j < l.number → slice_get l.entries j ≡ Some e → Name (steps_in e.recipe) k → k < j
