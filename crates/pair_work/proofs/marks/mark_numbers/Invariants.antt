use Rattle.std.proofs.Common.{◌≡◌, ◌⊎◌, ◌<◌, ℕ, Some, true, length, Contains}
use Rattle.std.specs.List.{slice_get}
use Rattle.pair_work.proofs.marks.mark_numbers.Given as goal

abbrev pub invariant-loop-number : goal.invariant-loop-number
invariant-loop-number l = record {
  size : length l.marks.items ≡ length l.initial.marks.items;
  set : (k n : ℕ) → k < l.number-index → slice_get l.numbers k ≡ Some n → slice_get l.marks.items n ≡ Some true;
  only : (n : ℕ) → slice_get l.marks.items n ≡ Some true → (slice_get l.initial.marks.items n ≡ Some true) ⊎ Contains l.numbers n;
}
