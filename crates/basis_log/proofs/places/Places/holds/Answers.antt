use Rattle.std.proofs.Common.{arith, ◌≡◌, length, ap}
use Rattle.basis_log.specs.Places.{cells_of}
use Rattle.basis_log.proofs.Standing.{full_length}
use Rattle.basis_log.proofs.places.Places.holds.Goals as goal

pub returns : goal.returns
returns c =
    let full = full_length c.self.inside.segments.items c.self.invariant.0.full in
    let same : length (cells_of c.self.inside.segments.items) ≡ length (cells_of c.args.self.now.segments) =
    ap (λ p. length (cells_of p.segments)) c.self.view_is in
    grind (arith, full, same, c.len.ensures)
