use Rattle.report_lines.proofs.StopTexts.{no_degree, steep_read}
use Rattle.report_lines.proofs.stops.steep.Goals as goal

pub returns-in_err-degree : goal.returns-in_err-degree
returns-in_err-degree c = rw c.from_residual.ensures (no_degree c.args.p.now.names c.args.text.now c.in_err-degree.ensures)

pub returns : goal.returns
returns c = steep_read c.args.p.now.names c.args.text.now c.in_ok-degree.degree c.in_ok-degree.ensures
