use Rattle.std.proofs.Common.{◌≡◌, length}
use Rattle.module_vec.specs.declared.places.Place.{Place}
use Rattle.flat_cert.specs.Adding.{sum_at}
use Rattle.flat_cert.proofs.totals.Totals.lead.Given as goal

abbrev pub invariant-loop-at : goal.invariant-loop-at
invariant-loop-at l = (x : Place) → sum_at l.fn.self x ≡ sum_at l.places.entries x

abbrev pub decreases-loop-at : goal.decreases-loop-at
decreases-loop-at l = length l.places.entries
