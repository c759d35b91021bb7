use Rattle.std.proofs.Common.{List, sym, subst}
use Rattle.std.specs.Prelude.{Err}
use Rattle.std.proofs.lemmas.Result.{err_from_is_err_and}
use Rattle.module_vec.specs.declared.places.Term.{Term}
use Rattle.module_vec.specs.Vectors.{coefficient_at}
use Rattle.step_lists.specs.declared.way.Way.TheVariants.{Add}
use Rattle.step_lists.specs.Sums.{zero_vector}
use Rattle.report_lines.specs.declared.lines.Made.TheVariants as made
use Rattle.cert_checker.specs.Checking.{StepsLead, EntryFails}
use Rattle.saved_basis.specs.declared.faults.LineFault.{LineFault}
use Rattle.saved_basis.specs.Lines.{Outcome, as_checked}
use Rattle.saved_basis.proofs.Passing.{Passes, recipe_fails}
use Rattle.saved_basis.proofs.lines.recipe_agrees.Goals as goal

pub returns-in_err-sum_of : goal.returns-in_err-sum_of
returns-in_err-sum_of g c = λ gens.
    let b : List (List Term) = g.L.VecList.vectors c.args.list.now in
    let p = err_from_is_err_and c.from_residual.result c.from_residual.ensures.1 in
    subst (Outcome (λ _. StepsLead Add b zero_vector c.args.steps.now (coefficient_at c.args.vector.now))
    (λ k. EntryFails gens b (made.Sum c.args.steps.now) c.args.vector.now (as_checked k))) (sym p.1)
    (recipe_fails gens b c.args.steps.now c.args.vector.now p.0
    (subst (λ (e : LineFault). Passes b zero_vector c.args.steps.now (Err e)) (sym p.2) c.in_err-sum_of.ensures))
