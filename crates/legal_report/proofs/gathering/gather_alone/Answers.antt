use Rattle.std.proofs.Common.{◌∙◌}
use Rattle.std.specs.Arc.{arc_value}
use Rattle.legal_report.proofs.Legality.{askers_before}
use Rattle.legal_report.proofs.gathering.gather_alone.Goals as goal

pub reported_on-requires-clause-sessions : goal.reported_on-requires-clause-sessions
reported_on-requires-clause-sessions c =
    askers_before (arc_value c.args.p.now) c.args.book c.in_ok-ended.ended c.finished.new.book c.args.sessions.items c.in_ok-ended.ensures.completed
    c.requires.sessions

pub returns-clause-sealed : goal.returns-clause-sealed
returns-clause-sealed c = λ some.
    let kept = c.in_ok-ended.ensures.completed.sealed some in
    (c.in_ok-report.ensures.entries ∙ kept.0, c.in_ok-report.ensures.seal ∙ kept.1)
