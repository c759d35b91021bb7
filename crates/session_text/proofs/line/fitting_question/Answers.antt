use Rattle.std.proofs.Common.{◌∙◌, sym}
use Rattle.session_text.proofs.ImageFits.{none_long}
use Rattle.session_text.proofs.line.fitting_question.Goals as goal

pub returns-in-None-clause-images : goal.returns-in-None-clause-images
returns-in-None-clause-images c = none_long c.in-Ok.question (sym c.first_long.ensures.place ∙ c.in-None.is)
