use Rattle.report_reading.proofs.Heads.{third_is}
use Rattle.report_reading.proofs.report.behind_items.Goals as goal

pub returns-clause-body : goal.returns-clause-body
returns-clause-body c = third_is c.args.text.now c.in-Some.third.now c.in-Some.body.now c.in-Some-read_items_line.items c.in-Some.ensures.parts
    c.in-Some-read_items_line.ensures
