use Rattle.pair_work.proofs.OverStops.{stop_over}
use Rattle.pair_work.proofs.laws.places_of_stops_are_over.Goals as goal

pub returns : goal.returns
returns c = stop_over
