use Rattle.presentation.proofs.WholeTexts.{is_found, is_only}
use Rattle.presentation.proofs.text.read_presentation.Goals as goal

pub returns-clause-found : goal.returns-clause-found
returns-clause-found c = is_found c.args.text.now c.read_exactly.result c.read_exactly.ensures

pub returns-clause-only : goal.returns-clause-only
returns-clause-only c = λ p h. is_only c.args.text.now c.read_exactly.result p h c.read_exactly.ensures
