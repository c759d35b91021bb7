use Rattle.std.proofs.Common.{take}
use Rattle.std.specs.List.{AllByRecursion}
use Rattle.reducer_index.specs.Candidates.{IsPassed}
use Rattle.reducer_index.proofs.search.first_reducer.Given as goal

abbrev pub invariant-loop-x : goal.invariant-loop-x
invariant-loop-x l = AllByRecursion (IsPassed l.leads l.front l.at) (take l.x-index l.candidates)
