use Rattle.std.proofs.Common.{◌∙◌, None}
use Rattle.task_table.proofs.Reading.{any_default}
use Rattle.pair_book.proofs.links.Links.last.Goals as goal

pub returns : goal.returns
returns c = c.index.ensures ∙ any_default c.args.self.now.last.items c.args.component c.index.result.now None c.requires
