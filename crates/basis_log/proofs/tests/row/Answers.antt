use Rattle.std.proofs.Common.{rules, arith}
use Rattle.std.proofs.lemmas.List.{length-map}
use Rattle.std.specs.Arc.{arc_value}
use Rattle.basis_log.proofs.tests.row.Goals as goal

pub open-requires-clause-base : goal.open-requires-clause-base
open-requires-clause-base c = record { source = arc_value c.in_ok-p.p; presented = search rules; base = c.in_ok-base.ensures }

pub open-requires-clause-few : goal.open-requires-clause-few
open-requires-clause-few c = omega (arith, length-map c.in_ok-base.base.items arc_value, c.in_ok-base.ensures.few, c.if-cells-gt1000.false)
