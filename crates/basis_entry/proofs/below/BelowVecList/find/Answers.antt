use Rattle.std.proofs.Common.{rules, List, subst}
use Rattle.module_vec.specs.declared.places.Term.{Term}
use Rattle.module_vec.specs.Reducers.{FindsReducer}
use Rattle.basis_entry.proofs.Firsts.{vectors_first}
use Rattle.basis_entry.proofs.below.BelowVecList.find.Goals as goal

pub returns : goal.returns
returns g c =
    subst (λ (b : List (List Term)). FindsReducer b c.args.at.now c.find.result)
    (vectors_first c.args.front c.args.self.now.front (g.L.VecList.vectors c.args.self.now.list.now) (g.L.Front.entries c.args.self.now.list.now)
    (g.met.L.Front.vectors_are c.args.self.now.list.now) (search rules))
    c.find.ensures
