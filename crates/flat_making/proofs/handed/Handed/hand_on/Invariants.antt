use Rattle.std.proofs.Common.{drop}
use Rattle.flat_cert.specs.Adding.{Adds}
use Rattle.flat_cert.proofs.Adding.{Answer}
use Rattle.flat_making.proofs.Handings.{Totals}
use Rattle.flat_making.proofs.Steps.{handed_by}
use Rattle.flat_making.proofs.handed.Handed.hand_on.Given as goal

-- what comes of the steps that are left comes of all
abbrev pub invariant-loop-step : goal.invariant-loop-step
invariant-loop-step l = (new : Totals) (r : Answer) → Adds l.self (handed_by l.k l.t (drop l.step-index l.steps)) new r
    → Adds l.fn.self (handed_by l.k l.t l.steps) new r
