use Rattle.std.proofs.Common.{◌<◌, ◌≤◌, ◌∷◌, [], sym, subst, length, length-append, List, arith}
use Rattle.std.specs.List.{AllByRecursion}
use Rattle.task_table.specs.declared.profiles.Profile.{Profile}
use Rattle.task_table.specs.Keys.{Costed, IsKey}
use Rattle.task_table.specs.Profiles.{IsProfile}
use Rattle.task_table.proofs.Costing.{key_stays, all_push}
use Rattle.task_table.proofs.costs.Costs.add.Goals as goal

pub invariant_of-self : goal.invariant_of-self
invariant_of-self c =
    let old : List Profile = c.self.inside.profiles.items in
    let items = c.push_reserved.ensures.items in
    let few = subst (λ (z : Costed). length z.profiles < 4096) (sym c.self.view_is) c.requires.few in
    let n = length-append old (c.of.result ∷ []) in
    record {
      profiles = subst (AllByRecursion IsProfile) (sym items) (all_push IsProfile old c.of.result c.self.invariant.profiles c.of.ensures.profile);
      most = subst (λ (ps : List Profile). length ps ≤ 4096) (sym items) (omega (arith, n, few));
      keys = λ x h. subst (λ (ps : List Profile). IsKey ps x) (sym items) (key_stays old c.of.result x (c.self.invariant.keys x h));
    }
