use Rattle.std.proofs.Common.{sym, subst}
use Rattle.report_trimming.specs.Used.{Name, steps_in}
use Rattle.report_trimming.proofs.tests.recipe_is_below.Goals as goal

pub returns-in-Sum : goal.returns-in-Sum
returns-in-Sum c = λ truth k n.
    c.are_below.ensures truth k (subst (λ ss. Name ss k) (sym c.steps.ensures) (subst (λ r. Name (steps_in r) k) c.in-Sum.is n))
