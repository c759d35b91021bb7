use Rattle.std.proofs.Common.{rules, FitsSigned}
use Rattle.std.proofs.lemmas.Int.{to_z-of_z}
use mir.Syntax.{w128}
use Rattle.chain_rule.proofs.GcdQuotients.{part_is, part_positive}
use Rattle.chain_rule.proofs.coefficients.part_beside.Goals as goal

pub returns-clause-positive : goal.returns-clause-positive
returns-clause-positive c =
    let k : FitsSigned w128 c.args.k = search rules in
    let l : FitsSigned w128 c.args.l = search rules in
    let d : FitsSigned w128 c.bezout-divisor.result.0 = search rules in
    part_positive c.args.k c.args.l c.bezout-divisor.result.0 c.bezout-divisor.result.1 c.bezout-divisor.result.2 c.requires.k c.requires.l k d
    (simp to_z-of_z at c.bezout-divisor.ensures)

pub returns-clause-is : goal.returns-clause-is
returns-clause-is c =
    let k : FitsSigned w128 c.args.k = search rules in
    let l : FitsSigned w128 c.args.l = search rules in
    let d : FitsSigned w128 c.bezout-divisor.result.0 = search rules in
    part_is c.args.k c.args.l c.bezout-divisor.result.0 c.bezout-divisor.result.1 c.bezout-divisor.result.2 c.requires.k c.requires.l k d
    (simp to_z-of_z at c.bezout-divisor.ensures)
