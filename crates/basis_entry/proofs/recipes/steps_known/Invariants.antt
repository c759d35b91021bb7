use Rattle.std.proofs.Common.{take}
use Rattle.std.specs.List.{AllByRecursion}
use Rattle.laurent_terms.specs.Monomials.{IsMonomial}
use Rattle.basis_entry.proofs.recipes.steps_known.Given as goal

abbrev pub invariant-loop-step : goal.invariant-loop-step
invariant-loop-step l = AllByRecursion (λ s. IsMonomial s.t) (take l.step-index l.steps)
