use Rattle.std.proofs.Common.{◌∙◌, inl, inr, ap, sym, subst, length, List}
use Rattle.task_table.specs.declared.profiles.Profile.{Profile}
use Rattle.task_table.specs.Keys.{Costed, key_of}
use Rattle.task_table.specs.Tasks.{IsTask}
use Rattle.task_table.proofs.costs.Costs.put.Goals as goal

pub invariant_of-self : goal.invariant_of-self
invariant_of-self c = record {
  profiles = c.self.invariant.profiles;
  most = c.self.invariant.most;
  keys = λ x h. elim (c.push.ensures.numbers.only x h) [
    | inl e ↦ record {
      task = c.args.task;
      is_task = subst (λ (z : Costed). IsTask (length z.profiles) c.args.task) (sym c.self.view_is) c.requires.task;
      is = e ∙ (c.key.ensures ∙ ap (λ (ps : List Profile). key_of ps c.args.task) c.deref.ensures.value);
    }
    | inr old ↦ c.self.invariant.keys x old
  ];
}
