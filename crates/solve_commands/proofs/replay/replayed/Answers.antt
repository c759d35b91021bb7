use Rattle.std.proofs.Common.{List}
use Rattle.std.specs.Arc.{arc_value}
use Rattle.presentation.specs.Presented.{Presented}
use Rattle.session_text.specs.declared.question.Event.{Event}
use Rattle.pair_book.specs.Books.{Held}
use Rattle.session_core.specs.Sessions.{SessionState}
use Rattle.interleave_core.specs.Machine.{State}
use Rattle.report_text.specs.Reports.{reported}
use Rattle.solve_commands.proofs.Replayed.{source, limits_are, askers, replay}
use Rattle.solve_commands.proofs.replay.replayed.Goals as goal

pub conclude-requires-clause-source : goal.conclude-requires-clause-source
conclude-requires-clause-source c =
    source (arc_value c.args.p.now) c.args.limits c.args.sessions.items c.args.events.now c.in_ok-core.core c.play.new.self c.parts-book.result.0
    c.parts-book.result.1.items
    c.in_ok-core.ensures c.in_ok-play.ensures.ok c.parts-book.ensures c.runs_keep.ensures

pub conclude-requires-clause-limits : goal.conclude-requires-clause-limits
conclude-requires-clause-limits c =
    limits_are (arc_value c.args.p.now) c.args.limits c.args.sessions.items c.args.events.now c.in_ok-core.core c.play.new.self c.parts-book.result.0
    c.parts-book.result.1.items
    c.in_ok-core.ensures c.in_ok-play.ensures.ok c.parts-book.ensures c.runs_keep.ensures

pub conclude-requires-clause-sessions : goal.conclude-requires-clause-sessions
conclude-requires-clause-sessions c =
    askers (arc_value c.args.p.now) c.args.limits c.args.sessions.items c.args.events.now c.in_ok-core.core c.play.new.self c.parts-book.result.0
    c.parts-book.result.1.items
    c.in_ok-core.ensures c.in_ok-play.ensures.ok c.parts-book.ensures c.runs_keep.ensures

pub returns-clause-replay : goal.returns-clause-replay
returns-clause-replay c =
    replay (arc_value c.args.p.now) c.args.limits c.args.sessions.items c.args.events.now c.in_ok-core.core c.play.new.self c.parts-book.result.0
    c.parts-book.result.1.items
    c.in_ok-core.ensures c.in_ok-play.ensures.ok c.parts-book.ensures c.runs_keep.ensures (reported c.in_ok-solved.solved.report)
    c.in_ok-solved.ensures.conclusion c.in_ok-solved.ensures.goes_on
