use Rattle.strong_pairs.proofs.pairs.pair_vector.Goals as goal

pub returns : goal.returns
returns g c = c.pair_sum.ensures c.args.kind c.args.i c.args.j c.in_ok-first.ensures.steps
