use Rattle.std.proofs.Common.{subst}
use Rattle.module_vec.specs.Reducers.{AreEntries}
use Rattle.basis_entry.specs.Entries.{vectors_of}
use Rattle.basis_entry.proofs.Vectors.{are_entries}
use Rattle.pair_book.specs.LogEntries.{Logged}
use Rattle.pair_book.proofs.log.LogVecList.count.Goals as goal

pub returns-clause-entries : goal.returns-clause-entries
returns-clause-entries c = subst (λ (l : Logged). AreEntries (vectors_of l.entries)) c.self.view_is (are_entries _ c.self.invariant.logged.entries)
