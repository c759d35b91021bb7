use Rattle.std.proofs.Common.{◌≡◌, length, take}
use Rattle.reducer_index.specs.Leads.{AreLeads}
use Rattle.reducer_index.proofs.index.Index.of_list.Given as goal

abbrev pub invariant-loop-at : goal.invariant-loop-at
invariant-loop-at g l = record {
  are : AreLeads (take l.at (g.L.VecList.vectors l.list)) l.index;
  count : length l.index ≡ l.at;
}
