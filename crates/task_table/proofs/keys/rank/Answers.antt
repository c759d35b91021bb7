use Rattle.std.proofs.Common.{◌≡◌, ◌+◌, ◌*◌, ◌∙◌, arith}
use Rattle.task_table.specs.Orders.{cost}
use Rattle.task_table.proofs.Costing.{cost_small}
use Rattle.task_table.proofs.keys.rank.Goals as goal

pub returns-clause-is : goal.returns-clause-is
unfolding cost
returns-clause-is c = λ k. (c.long.ensures k * 131072 + (c.from.ensures ∙ c.lcm_degree-degree.ensures) k) * 512 + (c.from-2.ensures
    ∙ c.most_digits.ensures.is) k

pub returns-clause-small : goal.returns-clause-small
returns-clause-small c =
    let s = cost_small c.args.first.now c.args.second.now c.requires.first c.requires.second in
    let all : (c.long.result * 131072 + c.from.result) * 512 + c.from-2.result
    ≡ ((cost c.args.first.now c.args.second.now).length * 131072 + (cost c.args.first.now c.args.second.now).degree) * 512
    + (cost c.args.first.now c.args.second.now).digits =
    returns-clause-is c in
    omega (arith, s.0, s.1, s.2, all)
