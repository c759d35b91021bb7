-- Faults of lower crates, as those of work.
use Rattle.strong_pairs.specs.declared.faults.PairFault.{PairFault}
use Rattle.strong_pairs.specs.declared.faults.PairFault.TheVariants as of_pair
use Rattle.reduce_cofactor.specs.declared.faults.ReduceFault.{ReduceFault}
use Rattle.reduce_cofactor.specs.declared.faults.ReduceFault.TheVariants as of_reduction
use Rattle.pair_work.specs.declared.faults.WorkFault.{WorkFault}
use Rattle.pair_work.specs.declared.faults.WorkFault.TheVariants.{Stop, NoMemory}

abbrev pub pair_as_work : PairFault → WorkFault
pair_as_work (of_pair.Stop stop) = Stop stop
pair_as_work of_pair.NoMemory = NoMemory

abbrev pub reduce_as_work : ReduceFault → WorkFault
reduce_as_work (of_reduction.Stop stop) = Stop stop
reduce_as_work of_reduction.NoMemory = NoMemory
