use Rattle.std.proofs.Common.{◌≡◌, Decides, rules}
use Rattle.std.proofs.lemmas.Slice.Eq.{slice_eq-Decides}
use Rattle.module_vec.specs.declared.steps.Step.{Step}
use Rattle.module_vec.specs.contracts.steps.StepPartialEq.TheImpl.{eq-value}
use Rattle.basis_entry.proofs.recipes.same_steps.Goals as goal

step_decides : (a b : Step) → Decides (eq-value.it a b) (a ≡ b)
step_decides a b = search rules

pub returns : goal.returns
returns c = slice_eq-Decides step_decides c.args.steps.now c.args.others.now c.eq.result
    (rw (c.steps.ensures, c.steps-2.ensures) at c.eq.ensures)
