use Rattle.report_lines.proofs.TaskTexts.{no_i, no_j, no_last, task_read}
use Rattle.report_lines.proofs.tasks.read_task.Goals as goal

pub returns-in_err-i : goal.returns-in_err-i
returns-in_err-i c = rw c.from_residual.ensures (no_i c.args.text.now c.in_err-i.ensures)

pub returns-in_err-j : goal.returns-in_err-j
returns-in_err-j c = rw c.from_residual-in_err-j.ensures (no_j c.args.text.now c.in_ok-i.rest.now c.in_ok-i.i c.in_ok-i.ensures c.in_err-j.ensures)

pub returns-in_err-kind : goal.returns-in_err-kind
returns-in_err-kind c =
    rw c.from_residual-in_err-kind.ensures (no_last c.args.text.now c.in_ok-i.rest.now c.in_ok-j.last.now c.in_ok-i.i c.in_ok-j.j c.in_ok-i.ensures
    c.in_ok-j.ensures c.in_err-kind.ensures)

pub returns : goal.returns
returns c = task_read c.args.text.now c.in_ok-i.rest.now c.in_ok-j.last.now c.in_ok-i.i c.in_ok-j.j c.in_ok-kind.kind c.in_ok-i.ensures c.in_ok-j.ensures
    c.in_ok-kind.ensures
