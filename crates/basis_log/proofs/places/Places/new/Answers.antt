use Rattle.std.proofs.Common.{arith, length, ap, refl}
use Rattle.std.proofs.lemmas.List.{length-map}
use Rattle.once_cell.specs.Once.{cell_name}
use Rattle.basis_log.proofs.places.Places.new.Goals as goal

pub invariant_of-result : goal.invariant_of-result
invariant_of-result c =
    let n = length-map c.directory.result.now cell_name in
    let same = ap length c.directory.ensures.is in (
      rw (c.in_ok-segments.ensures.items) (record { cells = (c.args.row.now.directory, refl); full = tt }),
      omega (arith, n, same, c.in_ok-segments.ensures.capacity),
    )
