use Rattle.report_lines.proofs.EndTexts.{no_stopped_task, no_stopped_stop, stopped_read}
use Rattle.report_lines.proofs.ends.stopped.Goals as goal

pub returns-in_err-task : goal.returns-in_err-task
returns-in_err-task c = rw c.from_residual.ensures (no_stopped_task c.args.p.now.names c.args.text.now c.in_err-task.ensures)

pub returns-in_err-stop : goal.returns-in_err-stop
returns-in_err-stop c = rw c.from_residual-in_err-stop.ensures (no_stopped_stop c.args.p.now.names c.args.text.now c.in_ok-task.rest.now c.in_ok-task.task
    c.in_ok-task.ensures c.in_err-stop.ensures)

pub returns : goal.returns
returns c = stopped_read c.args.p.now.names c.args.text.now c.in_ok-task.rest.now c.in_ok-task.task c.in_ok-stop.stop c.in_ok-task.ensures c.in_ok-stop.ensures
