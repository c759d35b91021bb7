use Rattle.std.proofs.Common.{rules, sym, ◌∙◌}
use Rattle.basis_entry.proofs.Firsts.{vector_first}
use Rattle.basis_entry.proofs.below.BelowVecList.vector.Goals as goal

pub returns-clause-is : goal.returns-clause-is
returns-clause-is g c =
    sym (vector_first c.args.self.now.front c.args.at (g.L.VecList.vectors c.args.self.now.list.now) (g.L.Front.entries c.args.self.now.list.now)
    (g.met.L.Front.vectors_are c.args.self.now.list.now) (search rules))
    ∙ c.vector.ensures.is
