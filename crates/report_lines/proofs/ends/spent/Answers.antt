use Rattle.report_lines.proofs.EndTexts.{no_spent_commits, no_spent_task, spent_read}
use Rattle.report_lines.proofs.ends.spent.Goals as goal

pub returns-in_err-commits : goal.returns-in_err-commits
returns-in_err-commits c = rw c.from_residual.ensures (no_spent_commits c.args.p.now.names c.args.text.now c.in_err-commits.ensures)

pub returns-in_err-task : goal.returns-in_err-task
returns-in_err-task c = rw c.from_residual-in_err-task.ensures (no_spent_task c.args.p.now.names c.args.text.now c.in_ok-commits.rest.now
    c.in_ok-commits.commits c.in_ok-commits.ensures c.in_err-task.ensures)

pub returns : goal.returns
returns c = spent_read c.args.p.now.names c.args.text.now c.in_ok-commits.rest.now c.in_ok-commits.commits c.in_ok-task.task c.in_ok-commits.ensures
    c.in_ok-task.ensures
