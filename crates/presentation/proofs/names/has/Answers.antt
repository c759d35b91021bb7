use Rattle.std.proofs.Common.{◌∙◌, sym}
use Rattle.presentation.proofs.NameLists.{any_of_texts}
use Rattle.presentation.proofs.names.has.Goals as goal

pub returns : goal.returns
returns c = c.any_is.ensures ∙ sym (any_of_texts c.args.name.now c.args.names.now)
