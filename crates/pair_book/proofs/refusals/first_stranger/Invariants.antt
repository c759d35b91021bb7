use Rattle.std.proofs.Common.{◌≡◌, ◌<◌, ℕ, Some, map}
use Rattle.std.specs.List.{slice_get}
use Rattle.pair_work.specs.Outcomes.{UsedEntry, used_entry, IsThere}
use Rattle.pair_book.proofs.refusals.first_stranger.Given as goal

abbrev pub invariant-loop-one : goal.invariant-loop-one
invariant-loop-one l = (m : ℕ) (u : UsedEntry) → m < l.one-index → slice_get (map used_entry l.used) m ≡ Some u → IsThere l.log.entries u
