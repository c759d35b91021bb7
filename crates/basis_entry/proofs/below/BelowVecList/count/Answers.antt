use Rattle.basis_entry.proofs.Firsts.{entries_counted}
use Rattle.basis_entry.proofs.below.BelowVecList.count.Goals as goal

pub returns-clause-entries : goal.returns-clause-entries
returns-clause-entries g c =
    entries_counted c.args.self.now.front (g.L.VecList.vectors c.args.self.now.list.now) (g.L.Front.entries c.args.self.now.list.now)
    (g.met.L.Front.vectors_are c.args.self.now.list.now) c.count.ensures.entries
