use Rattle.std.proofs.Common.{length, sym, subst}
use Rattle.report_trimming.specs.Used.{Name, steps_in}
use Rattle.report_trimming.proofs.Marking.{names_below}
use Rattle.report_trimming.proofs.used.mark_recipe.Goals as goal

pub mark_steps-requires : goal.mark_steps-requires
mark_steps-requires c =
    names_below (length c.args.marks.now.items) c.steps.result.now
    (λ k n. c.requires k (subst (λ r. Name (steps_in r) k) (sym c.in-Sum.is) (subst (λ ss. Name ss k) c.steps.ensures n)))
