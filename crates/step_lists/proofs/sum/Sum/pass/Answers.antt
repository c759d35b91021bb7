use Rattle.std.proofs.Common.{rules, sym, subst, FitsSigned}
use mir.Syntax.{w128}
use Rattle.std.proofs.lemmas.Int.{to_z-of_z}
use Rattle.module_vec.specs.Vectors.{coefficient_at, multiple_at}
use Rattle.step_lists.specs.Partial.{Combines}
use Rattle.step_lists.proofs.sum.Sum.pass.Goals as goal

pub returns-in-Add : goal.returns-in-Add
returns-in-Add c =
    let q : FitsSigned w128 c.args.step.now.q = search rules in
    subst (λ w. Combines w (coefficient_at c.args.self) (multiple_at c.args.step.now.q c.args.step.now.t c.args.g.now) c.add.result) (sym c.in-Add.is)
    (simp to_z-of_z at c.add.ensures)

pub returns-in-Take : goal.returns-in-Take
returns-in-Take c =
    let q : FitsSigned w128 c.args.step.now.q = search rules in
    subst (λ w. Combines w (coefficient_at c.args.self) (multiple_at c.args.step.now.q c.args.step.now.t c.args.g.now) c.take.result) (sym c.in-Take.is)
    (simp to_z-of_z at c.take.ensures)
