use Rattle.std.proofs.Common.{rules}
use Rattle.laurent_terms.proofs.Combining.{divides_is}
use Rattle.laurent_terms.proofs.exponents.every_at_most.Goals as goal

pub returns : goal.returns
returns c = divides_is c.loop-i.all c.args.xs.now c.args.ys.now 48 (search rules) (search rules) (search rules)
