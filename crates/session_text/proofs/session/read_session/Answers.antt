use Rattle.session_text.proofs.TextLaws.{is_found, is_only}
use Rattle.session_text.proofs.session.read_session.Goals as goal

pub returns-clause-found : goal.returns-clause-found
returns-clause-found c = is_found c.args.p.now c.args.text.now c.read_exactly.result c.read_exactly.ensures.exact

pub returns-clause-only : goal.returns-clause-only
returns-clause-only c = λ qs h. is_only c.args.p.now c.args.text.now c.read_exactly.result qs h c.read_exactly.ensures.exact
