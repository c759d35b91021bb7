use Rattle.std.proofs.Common.{rules, FitsSigned}
use mir.Syntax.{w128}
use Rattle.std.proofs.lemmas.Int.{to_z-of_z}
use Rattle.chain_rule.proofs.CommonMultiples.{multiple_test}
use Rattle.chain_rule.proofs.coefficients.divides_multiple.Goals as goal

pub returns : goal.returns
returns c =
    let by : FitsSigned w128 c.args.by = search rules in
    let first : FitsSigned w128 c.args.first = search rules in
    let second : FitsSigned w128 c.args.second = search rules in
    let p : FitsSigned w128 c.part_beside.result = search rules in
    let q : FitsSigned w128 c.part_beside-2.result = search rules in
    let last = simp to_z-of_z at c.divides.ensures.divides in
    let is_p = simp to_z-of_z at c.part_beside.ensures.is in
    let is_q = simp to_z-of_z at c.part_beside-2.ensures.is in
    let test = multiple_test c.args.by c.args.first c.args.second c.part_beside.result c.part_beside-2.result c.requires.by c.requires.first
    c.requires.second is_p is_q in
    (λ yes. test.0 (last.0 yes), λ h. last.1 (test.1 h))
