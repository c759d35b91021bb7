use Rattle.saved_basis.proofs.Testing.{second_result}
use Rattle.saved_basis.proofs.tasks.test_second.Goals as goal

pub returns : goal.returns
returns g c =
    second_result (g.L.VecList.vectors c.args.list.now) c.args.i c.args.j c.requires.pair c.requires.first c.test_task.result c.test_task.ensures
