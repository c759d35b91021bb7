use Rattle.std.proofs.Common.{arith, map}
use Rattle.std.proofs.lemmas.List.{length-map}
use Rattle.std.specs.Arc.{arc_value}
use Rattle.once_cell.specs.Once.{cell_name}
use Rattle.basis_log.proofs.Bases.{row_of}
use Rattle.basis_log.proofs.rows.Row.open.Goals as goal

pub invariant_of-result : goal.invariant_of-result
invariant_of-result c =
    let n = length-map c.args.base.items arc_value in
    let m = length-map c.in_ok-directory.directory.items cell_name in
    row_of (map arc_value c.args.base.items) c.args.cells (map cell_name c.in_ok-directory.directory.items) c.requires.base
    (omega (arith, n, c.requires.few)) (omega (arith, m, c.in_ok-directory.ensures))
