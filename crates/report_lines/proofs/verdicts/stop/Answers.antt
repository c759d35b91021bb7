use Rattle.report_lines.proofs.VerdictTexts.{no_stop_subject, no_stop_reason, stop_read}
use Rattle.report_lines.proofs.verdicts.stop.Goals as goal

pub returns-in_err-subject : goal.returns-in_err-subject
returns-in_err-subject c = rw c.from_residual.ensures (no_stop_subject c.args.p.now.names c.args.text.now c.in_err-subject.ensures)

pub returns-in_err-stop : goal.returns-in_err-stop
returns-in_err-stop c = rw c.from_residual-in_err-stop.ensures (no_stop_reason c.args.p.now.names c.args.text.now c.in_ok-subject.rest.now
    c.in_ok-subject.subject c.in_ok-subject.ensures c.in_err-stop.ensures)

pub returns : goal.returns
returns c = stop_read c.args.p.now.names c.args.text.now c.in_ok-subject.rest.now c.in_ok-subject.subject c.in_ok-stop.stop c.in_ok-subject.ensures
    c.in_ok-stop.ensures
