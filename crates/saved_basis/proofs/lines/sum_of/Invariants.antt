use Rattle.std.proofs.Common.{drop}
use Rattle.std.specs.Prelude.{List, Result}
use Rattle.module_vec.specs.declared.places.Term.{Term}
use Rattle.module_vec.specs.Vectors.{coefficient_at}
use Rattle.step_lists.specs.Sums.{zero_vector}
use Rattle.saved_basis.specs.declared.faults.LineFault.{LineFault}
use Rattle.saved_basis.proofs.Passing.{Passes}
use Rattle.saved_basis.proofs.lines.sum_of.Given as goal

-- what comes of the steps that are left comes of all
abbrev pub invariant-loop-step : goal.invariant-loop-step
invariant-loop-step g l = (r : Result (List Term) LineFault)
    → Passes (g.L.VecList.vectors l.list) (coefficient_at l.sum) (drop l.step-index l.steps) r
    → Passes (g.L.VecList.vectors l.list) zero_vector l.steps r
