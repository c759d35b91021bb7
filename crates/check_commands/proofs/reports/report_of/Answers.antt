use Rattle.check_commands.proofs.reports.report_of.Goals as goal

pub returns-in-Ok-check-clause-holds : goal.returns-in-Ok-check-clause-holds
returns-in-Ok-check-clause-holds c =
    c.accepted_reports_hold.ensures c.args.p.now c.args.text.now c.in-Ok-check._checked c.in-Ok.data c.known.ensures c.in-Ok-check.ensures.exact c.in-Ok.ensures
