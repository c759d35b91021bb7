use Rattle.std.proofs.Common.{◌≡◌, length, take}
use Rattle.reducer_index.specs.Leads.{AreLeads}
use Rattle.basis_entry.specs.Entries.{vectors_of}
use Rattle.interleave_core.proofs.turns.catch_up.Given as goal

abbrev pub invariant-loop-at : goal.invariant-loop-at
invariant-loop-at l = record {
  are : AreLeads (take l.at (vectors_of l.book.entries)) l.index;
  count : length l.index ≡ l.at;
}
