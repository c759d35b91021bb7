use Rattle.std.proofs.Common.{◌≡◌, ◌%◌, arith}
use Rattle.task_table.specs.Tasks.{kind_number}
use Rattle.task_table.proofs.Costing.{task_read}
use Rattle.task_table.proofs.keys.task_of.Goals as goal
use Rattle.task_table.proofs.keys.task_of.Goals.{then-key-eq0, else-key-eq0}

pub returns : goal.returns
returns c =
    let kind : kind_number c.if-key-eq0.kind ≡ c.args.key % 2 = elim c.if-key-eq0.branch [
      | then-key-eq0 w ↦ rw w.kind-is (omega (arith, w.if-key-eq0))
      | else-key-eq0 w ↦ rw w.kind-is (omega (arith, w.if-key-eq0))
    ] in
    λ profiles t a b e. task_read profiles t c.args.key c.if-key-eq0.kind a b e kind
