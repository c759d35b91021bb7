use Rattle.presentation.proofs.NameLists.{name_utf8}
use Rattle.presentation.proofs.names.name_behind.Goals as goal

pub returns-in_ok-name-in-Letter-clause-utf8 : goal.returns-in_ok-name-in-Letter-clause-utf8
returns-in_ok-name-in-Letter-clause-utf8 c = rw c.in_ok-name-in-Letter.ensures.name (name_utf8 c.skip_blanks-here.result.now)
