use Rattle.std.proofs.Common.{◌≡◌, ◌++◌, length, take}
use Rattle.std.specs.Vec.Iter.{into_iter_items, into_iter_len}
use Rattle.report_trimming.specs.Kept.{kept_by}
use Rattle.report_trimming.specs.Trimming.{Pairwise, IsKeptEntry}
use Rattle.report_trimming.proofs.trimming.kept_entries.Given as goal

abbrev pub invariant-loop-entry : goal.invariant-loop-entry
invariant-loop-entry l = record {
  split : l.yielded ++ into_iter_items l.entry-iterator ≡ l.fn.entries.items;
  left : into_iter_len l.entry-iterator ≡ length (into_iter_items l.entry-iterator);
  number : l.at ≡ length l.yielded;
  kept : Pairwise (IsKeptEntry l.fn.entries.items (kept_by l.kept)) (kept_by (take l.at l.kept)) l.made.items;
}
