use Rattle.module_vec.proofs.Determined.{same_next, same_end, runs_are_chains}
use Rattle.module_vec.proofs.laws.chains_are_determined.Goals as goal

pub returns : goal.returns
returns c = record { next = same_next; end = same_end; within_limits = runs_are_chains }
