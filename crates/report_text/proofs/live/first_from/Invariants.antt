use Rattle.std.proofs.Common.{◌≡◌, ℕ, ◌+◌, ◌-◌, ◌<◌, ◌≤◌, length}
use Rattle.std.specs.Prelude.{slice_get, Some}
use Rattle.session_core.specs.declared.kept.Kept.{Kept}
use Rattle.report_text.proofs.live.first_from.Given as goal

abbrev pub invariant-loop-low : goal.invariant-loop-low
invariant-loop-low l = record {
  first : 1 ≤ l.low;
  order : l.low ≤ l.high;
  within : l.high ≤ length l.session.kept + 1;
  before : (i : ℕ) (k : Kept) → i + 1 < l.low → slice_get l.session.kept i ≡ Some k → k.front < l.front;
  behind : (i : ℕ) (k : Kept) → l.high ≤ i + 1 → slice_get l.session.kept i ≡ Some k → l.front ≤ k.front;
}

abbrev pub decreases-loop-low : goal.decreases-loop-low
decreases-loop-low l = l.high - l.low
