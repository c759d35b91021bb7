use Rattle.fox_calculus.proofs.Short.{no_fault}
use Rattle.fox_calculus.proofs.small.small_sum.Goals as goal

pub unreachable-requires : goal.unreachable-requires
unreachable-requires c = no_fault c.args.terms.now c.in-Err-Stop.field-0 c.in-Err-Stop.field-0-0 c.in-Err-Stop.field-0-is c.requires.few c.requires.small
    c.in-Err-Stop.ensures
