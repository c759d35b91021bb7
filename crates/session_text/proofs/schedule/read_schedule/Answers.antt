use Rattle.session_text.proofs.ScheduleLaws.{is_found, is_only}
use Rattle.session_text.proofs.schedule.read_schedule.Goals as goal

pub returns-clause-found : goal.returns-clause-found
returns-clause-found c = is_found c.args.sessions c.args.text.now c.read_exactly.result c.read_exactly.ensures.exact

pub returns-clause-only : goal.returns-clause-only
returns-clause-only c = λ es h. is_only c.args.sessions c.args.text.now c.read_exactly.result es h c.read_exactly.ensures.exact
