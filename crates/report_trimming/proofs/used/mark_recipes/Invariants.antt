use Rattle.std.proofs.Common.{◌≡◌, ◌≤◌, ℕ, Some, length}
use Rattle.std.specs.List.{slice_get}
use Rattle.report_reading.specs.declared.entry.EntryData.{EntryData}
use Rattle.report_trimming.specs.Kept.{IsMarked}
use Rattle.report_trimming.specs.Used.{Name, steps_in, IsNeeded}
use Rattle.report_trimming.proofs.used.mark_recipes.Given as goal

-- what the entries from `left` on need is marked
abbrev pub invariant-loop-left : goal.invariant-loop-left
invariant-loop-left l = record {
  size : length l.marks.items ≡ length l.initial.marks.items;
  within : l.left ≤ length l.entries;
  kept : (k : ℕ) → IsMarked l.initial.marks.items k → IsMarked l.marks.items k;
  closed : (j k : ℕ) (e : EntryData) → l.left ≤ j → IsMarked l.marks.items j → slice_get l.entries j ≡ Some e → Name (steps_in e.recipe) k
      → IsMarked l.marks.items k;
  only : (k : ℕ) → IsMarked l.marks.items k → IsNeeded (IsMarked l.initial.marks.items) l.entries k;
}

abbrev pub decreases-loop-left : goal.decreases-loop-left
decreases-loop-left l = l.left
