use Rattle.reducer_index.specs.Leads.{AreLeads}
use Rattle.reducer_index.proofs.tests.indexed.Given as goal

abbrev pub invariant-loop-row : goal.invariant-loop-row
invariant-loop-row l = AreLeads l.list l.index
