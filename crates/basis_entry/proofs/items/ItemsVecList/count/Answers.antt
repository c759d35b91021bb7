use Rattle.std.proofs.Common.{subst}
use Rattle.module_vec.specs.Reducers.{AreEntries}
use Rattle.basis_entry.specs.Entries.{vectors_of}
use Rattle.basis_entry.specs.Items.{ItemList}
use Rattle.basis_entry.proofs.Vectors.{are_entries}
use Rattle.basis_entry.proofs.items.ItemsVecList.count.Goals as goal

pub returns-clause-entries : goal.returns-clause-entries
returns-clause-entries c = subst (λ (l : ItemList). AreEntries (vectors_of l.entries)) c.self.view_is (are_entries _ c.self.invariant.0)
