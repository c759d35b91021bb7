use Rattle.flat_making.proofs.tests.accepted.Goals as goal

pub returns : goal.returns
returns c =
    c.accepted_reports_hold.ensures c.args.p.now c.args.report.now c.in-Ok._checked c.in-Ok-read_report.data c.known.ensures c.in-Ok.ensures.exact
    c.in-Ok-read_report.ensures
