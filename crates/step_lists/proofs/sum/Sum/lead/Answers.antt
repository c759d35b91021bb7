use Rattle.std.proofs.Common.{◌∙◌, sym, subst, []}
use Rattle.module_vec.specs.Vectors.{IsSparse}
use Rattle.step_lists.proofs.Parting.{longer}
use Rattle.step_lists.proofs.sum.Sum.lead.Goals as goal

pub returns : goal.returns
returns c =
    let split = sym c.self.view_is ∙ c.in_ok-top.ensures.is in
    longer c.args.self [] c.pop.new.self c.in_ok-top.top (subst IsSparse c.self.view_is c.self.invariant.sparse) split
