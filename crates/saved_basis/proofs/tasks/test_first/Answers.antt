use Rattle.std.proofs.Common.{sym, ◌∙◌}
use Rattle.saved_basis.proofs.Testing.{first_result}
use Rattle.saved_basis.proofs.tasks.test_first.Goals as goal

pub returns : goal.returns
returns g c =
    first_result (g.L.VecList.vectors c.args.list.now) c.args.i c.args.j c.requires
    (λ h. let wrong = sym (c.starts_closed.ensures.1 h) ∙ c.if-starts_closed.false in cc)
    c.test_task.result c.test_task.ensures
