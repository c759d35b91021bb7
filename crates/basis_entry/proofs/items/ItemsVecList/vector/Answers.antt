use Rattle.std.proofs.Common.{rules}
use Rattle.std.specs.Arc.{arc_value}
use Rattle.basis_entry.proofs.Vectors.{read_vector}
use Rattle.basis_entry.proofs.items.ItemsVecList.vector.Goals as goal

pub returns-clause-is : goal.returns-clause-is
returns-clause-is c = read_vector c.args.self.now.entries c.args.at (arc_value c.get.result.now) c.vector.result.now c.get.ensures (search rules)
