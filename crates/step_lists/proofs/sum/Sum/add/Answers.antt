use Rattle.std.proofs.Common.{rules, ◌-ℤ◌, pos, FitsSigned}
use mir.Syntax.{w128}
use Rattle.std.proofs.lemmas.Int.{to_z-of_z}
use Rattle.module_vec.specs.Vectors.{coefficient_at, multiple_at}
use Rattle.step_lists.proofs.Stepping.{turned_from_zero, added}
use Rattle.step_lists.proofs.sum.Sum.add.Goals as goal

pub returns : goal.returns
returns c =
    let q : FitsSigned w128 c.args.q = search rules in
    let z : FitsSigned w128 (pos 0 -ℤ c.args.q) = search rules in
    let taken = simp to_z-of_z at c.take.ensures in
    added (coefficient_at c.args.self) (multiple_at c.args.q c.args.t.now c.args.g.now) (multiple_at (pos 0 -ℤ c.args.q) c.args.t.now c.args.g.now)
    c.take.result (turned_from_zero c.args.q c.args.t.now c.args.g.now) taken
