use Rattle.std.proofs.Common.{◌≡◌, ℕ, Some, length}
use Rattle.std.specs.List.{slice_get}
use Rattle.report_trimming.specs.Kept.{place_of}
use Rattle.report_trimming.proofs.kept.places_of.Given as goal

abbrev pub invariant-loop-mark : goal.invariant-loop-mark
invariant-loop-mark l = record {
  size : length l.places.items ≡ l.mark-index;
  count : l.count ≡ place_of l.marks l.mark-index;
  each : (i x : ℕ) → slice_get l.places.items i ≡ Some x → x ≡ place_of l.marks i;
}
