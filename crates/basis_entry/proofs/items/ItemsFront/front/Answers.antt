use Rattle.std.proofs.Common.{subst}
use Rattle.std.specs.List.{AllByRecursion}
use Rattle.basis_entry.specs.Entries.{IsBasisEntry}
use Rattle.basis_entry.specs.Items.{ItemList}
use Rattle.basis_entry.proofs.items.ItemsFront.front.Goals as goal

pub returns-clause-entries : goal.returns-clause-entries
returns-clause-entries c = subst (λ (l : ItemList). AllByRecursion IsBasisEntry l.entries) c.self.view_is c.self.invariant.0
