use Rattle.reducer_index.proofs.Leading.{reducer_of_leads}
use Rattle.reducer_index.proofs.indexed.IndexedVecList.find.Goals as goal

pub returns : goal.returns
returns g c =
    reducer_of_leads (g.L.VecList.vectors c.args.self.now.list.now) c.args.self.now.index.now c.args.front c.args.at.now c.find.result c.count.ensures.entries
    c.args.self.now.leads c.find.ensures
