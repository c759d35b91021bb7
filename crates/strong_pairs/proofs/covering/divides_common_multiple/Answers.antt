use Rattle.strong_pairs.proofs.CoverTests.{divides_both}
use Rattle.std.proofs.Common.{rules}
use Rattle.strong_pairs.proofs.covering.divides_common_multiple.Goals as goal

pub returns : goal.returns
returns c = divides_both c.loop-i.all c.args.by.now c.args.first.now c.args.second.now 48 (search rules) c.requires.by.variables c.requires.first.variables
    c.requires.second.variables
