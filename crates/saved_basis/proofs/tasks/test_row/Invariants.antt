use Rattle.saved_basis.specs.Tasks.{PassWhere}
use Rattle.saved_basis.proofs.Testing.{IsInRow}
use Rattle.saved_basis.proofs.tasks.test_row.Given as goal

-- the tasks of the pairs below pass
abbrev pub invariant-loop-i : goal.invariant-loop-i
invariant-loop-i g l = PassWhere (IsInRow l.j l.i) (g.L.VecList.vectors l.list)
