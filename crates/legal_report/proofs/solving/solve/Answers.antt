use Rattle.std.proofs.Common.{rules, length}
use Rattle.std.specs.List.{AllByRecursion}
use Rattle.std.specs.Arc.{arc_value}
use Rattle.presentation.specs.Presented.{IsPresented}
use Rattle.session_core.specs.Sessions.{IsSession}
use Rattle.report_text.specs.Reports.{reported}
use Rattle.legal_report.proofs.Concluding.{askers, solution}
use Rattle.legal_report.proofs.solving.solve.Goals as goal

pub conclude-requires-clause-sessions : goal.conclude-requires-clause-sessions
conclude-requires-clause-sessions c = askers (arc_value c.args.p.now) c.args.limits c.args.book c.args.sessions.items c.requires.opened c.requires.sessions

pub returns-clause-solution : goal.returns-clause-solution
returns-clause-solution c =
    let known : IsPresented (arc_value c.args.p.now) = search rules in
    let sources : AllByRecursion IsSession c.args.sessions.items = search rules in
    solution c.args.limits (arc_value c.args.p.now) (length c.args.book.entries) c.args.sessions.items (reported c.in_ok-solved.solved.report) known sources
    c.requires.sessions c.in_ok-solved.ensures.conclusion c.in_ok-solved.ensures.goes_on.answered
