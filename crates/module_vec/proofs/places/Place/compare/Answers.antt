use Rattle.std.proofs.Common.{rules, ◌≡◌}
use Rattle.module_vec.proofs.Order.{place_itself}
use Rattle.module_vec.proofs.places.Place.compare.Goals as goal

pub returns-in-Equal : goal.returns-in-Equal
returns-in-Equal c =
    let same : c.args.self.now ≡ c.args.other.now = search rules in
    place_itself c.args.self.now c.args.other.now same
