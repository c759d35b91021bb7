use Rattle.std.proofs.Common.{sym, ◌∙◌}
use Rattle.basis_log.specs.Rows.{row_source}
use Rattle.basis_log.proofs.Logs.{count_items}
use Rattle.basis_log.proofs.fronts.SeatFront.front.Goals as goal

pub returns-clause-is : goal.returns-clause-is
returns-clause-is c = c.front.ensures.is ∙ sym (count_items (row_source c.args.self.now.row) c.args.self.now.items c.front.ensures.items)
