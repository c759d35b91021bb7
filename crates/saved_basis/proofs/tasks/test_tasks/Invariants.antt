use Rattle.saved_basis.specs.Tasks.{PassWhere}
use Rattle.saved_basis.proofs.Testing.{IsInRows}
use Rattle.saved_basis.proofs.tasks.test_tasks.Given as goal

-- the tasks of the rows below pass
abbrev pub invariant-loop-j : goal.invariant-loop-j
invariant-loop-j g l = PassWhere (IsInRows l.j) (g.L.VecList.vectors l.list)
