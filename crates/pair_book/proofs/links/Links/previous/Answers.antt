use Rattle.std.proofs.Common.{◌∙◌, None}
use Rattle.task_table.proofs.Reading.{any_default}
use Rattle.pair_book.proofs.links.Links.previous.Goals as goal

pub returns : goal.returns
returns c = c.index.ensures ∙ any_default c.args.self.now.before.items c.args.at c.index.result.now None c.requires
