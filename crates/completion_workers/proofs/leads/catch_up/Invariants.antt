use Rattle.std.proofs.Common.{◌≡◌, length, take}
use Rattle.basis_entry.specs.Entries.{vectors_of}
use Rattle.basis_log.specs.Items.{entries_of}
use Rattle.reducer_index.specs.Leads.{AreLeads}
use Rattle.completion_workers.proofs.leads.catch_up.Given as goal

abbrev pub invariant-loop-at : goal.invariant-loop-at
invariant-loop-at l = record {
  are : AreLeads (take l.at (vectors_of (entries_of l.seat.items))) l.index;
  count : length l.index ≡ l.at;
}
