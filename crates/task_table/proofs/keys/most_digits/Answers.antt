use Rattle.std.proofs.Common.{max, ◌∙◌, unsigned_abs, rules, FitsSigned}
use Rattle.std.proofs.lemmas.Int.{to_z-of_z}
use Rattle.std.proofs.lemmas.Nat.Gcd.{IsGcd-swap}
use mir.Syntax.{w128}
use Rattle.task_table.specs.Orders.{cost}
use Rattle.task_table.proofs.Costing.{greatest_is, positive_abs}
use Rattle.task_table.proofs.keys.most_digits.Goals as goal

pub carried-requires-clause-divisor : goal.carried-requires-clause-divisor
carried-requires-clause-divisor c =
    let k = c.args.first.now.lead.k in
    let l = c.args.second.now.lead.k in
    let d = c.bezout-divisor.result.0 in
    let fk : FitsSigned w128 k = search rules in
    let fl : FitsSigned w128 l = search rules in
    let fd : FitsSigned w128 d = search rules in
    let bezout = simp to_z-of_z at c.bezout-divisor.ensures in
    let value = simp to_z-of_z at c.unsigned_abs-divisor.ensures.value in
    value ∙ greatest_is (unsigned_abs k) (unsigned_abs l) (unsigned_abs d) bezout.divisor (positive_abs d bezout.positive)
    (positive_abs k c.requires.first.positive)

pub carried-requires-2-clause-divisor : goal.carried-requires-2-clause-divisor
carried-requires-2-clause-divisor c =
    let k = c.args.first.now.lead.k in
    let l = c.args.second.now.lead.k in
    let d = c.bezout-divisor.result.0 in
    let fk : FitsSigned w128 k = search rules in
    let fl : FitsSigned w128 l = search rules in
    let fd : FitsSigned w128 d = search rules in
    let bezout = simp to_z-of_z at c.bezout-divisor.ensures in
    let value = simp to_z-of_z at c.unsigned_abs-divisor.ensures.value in
    value ∙ greatest_is (unsigned_abs l) (unsigned_abs k) (unsigned_abs d)
    (IsGcd-swap (unsigned_abs k) (unsigned_abs l) (unsigned_abs d) bezout.divisor) (positive_abs d bezout.positive) (positive_abs l c.requires.second.positive)

pub returns-clause-is : goal.returns-clause-is
unfolding cost
returns-clause-is c = c.max.ensures ∙ (λ k. max (c.carried.ensures.is k) (c.carried-2.ensures.is k))
