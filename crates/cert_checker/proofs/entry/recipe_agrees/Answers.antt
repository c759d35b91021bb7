use Rattle.std.proofs.Common.{sym, subst}
use Rattle.std.specs.Prelude.{Err}
use Rattle.std.proofs.lemmas.Result.{err_from_is_err_and}
use Rattle.module_vec.specs.Vectors.{coefficient_at}
use Rattle.report_lines.specs.declared.lines.Made.TheVariants as made
use Rattle.cert_checker.specs.Checking.{Outcome, IsMadeAt, EntryFailsAt}
use Rattle.cert_checker.proofs.Passing.{Passes}
use Rattle.step_lists.specs.declared.way.Way.TheVariants.{Add}
use Rattle.cert_checker.proofs.Agreeing.{recipe_fails, leads_from_zero}
use Rattle.cert_checker.proofs.entry.recipe_agrees.Goals as goal

pub returns-in_err-sum : goal.returns-in_err-sum
returns-in_err-sum c gens i =
    let p = err_from_is_err_and c.from_residual.result c.from_residual.ensures.1 in
    let h : Passes Add c.args.entries.now (coefficient_at c.empty.result) c.args.steps.now (Err p.0) =
    subst (λ e. Passes Add c.args.entries.now (coefficient_at c.empty.result) c.args.steps.now (Err e)) (sym p.2) c.in_err-sum.ensures in
    subst (Outcome (λ _. IsMadeAt gens c.args.entries.now i (made.Sum c.args.steps.now) (coefficient_at c.args.vector.now))
    (EntryFailsAt gens c.args.entries.now i (made.Sum c.args.steps.now) c.args.vector.now)) (sym p.1)
    (recipe_fails gens c.args.entries.now i c.args.steps.now c.args.vector.now c.empty.result p.0 c.empty.ensures h)

pub returns-in-Some : goal.returns-in-Some
returns-in-Some c gens i = (
  coefficient_at c.in_ok-sum.sum,
  leads_from_zero c.args.entries.now c.args.steps.now c.empty.result (coefficient_at c.in_ok-sum.sum)
      c.empty.ensures c.in_ok-sum.ensures,
  c.in-Some.ensures,
)
