use Rattle.std.proofs.Common.{◌≡◌, Some, slice_get, take}
use Rattle.report_trimming.specs.Kept.{kept_by}
use Rattle.report_trimming.specs.Trimming.{Pairwise}
use Rattle.report_trimming.proofs.trimming.kept_numbers.Given as goal

abbrev pub invariant-loop-at : goal.invariant-loop-at
invariant-loop-at l = Pairwise (λ k f. slice_get l.from k ≡ Some f) (kept_by (take l.at l.kept)) l.numbers.items
