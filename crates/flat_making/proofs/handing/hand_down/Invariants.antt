use Rattle.std.proofs.Common.{◌≤◌, length}
use Rattle.formal_sums.specs.FormalSum.{FormalSum}
use Rattle.module_vec.specs.declared.places.Place.{Place}
use Rattle.flat_making.specs.Handing.{Holds}
use Rattle.flat_making.proofs.Handings.{Reached}
use Rattle.flat_making.proofs.handing.hand_down.Given as goal

abbrev pub invariant-loop-left : goal.invariant-loop-left
invariant-loop-left l = record {
  bound : l.left ≤ length l.entries;
  reached : (first : FormalSum Place) → Holds l.fn.handed first → Reached l.entries l.left l.handed first;
}

abbrev pub decreases-loop-left : goal.decreases-loop-left
decreases-loop-left l = l.left
