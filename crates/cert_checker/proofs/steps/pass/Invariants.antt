use Rattle.std.proofs.Common.{drop}
use Rattle.std.specs.Prelude.{List, Result}
use Rattle.module_vec.specs.declared.places.Term.{Term}
use Rattle.module_vec.specs.Vectors.{coefficient_at}
use Rattle.cert_checker.specs.declared.faults.LineFault.{LineFault}
use Rattle.cert_checker.proofs.Passing.{Passes}
use Rattle.cert_checker.proofs.steps.pass.Given as goal

-- what comes of the steps that are left comes of all
abbrev pub invariant-loop-step : goal.invariant-loop-step
invariant-loop-step l = (r : Result (List Term) LineFault) → Passes l.way l.entries (coefficient_at l.sum) (drop l.step-index l.steps) r
    → Passes l.way l.entries (coefficient_at l.fn.sum) l.steps r
