use Rattle.report_lines.proofs.EndTexts.{no_full_measure, no_full_count, full_read}
use Rattle.report_lines.proofs.ends.full.Goals as goal

pub returns-in_err-measure : goal.returns-in_err-measure
returns-in_err-measure c = rw c.from_residual.ensures (no_full_measure c.args.p.now.names c.args.text.now c.in_err-measure.ensures)

pub returns-in_err-count : goal.returns-in_err-count
returns-in_err-count c = rw c.from_residual-in_err-count.ensures (no_full_count c.args.p.now.names c.args.text.now c.in_ok-measure.rest.now
    c.in_ok-measure.measure c.in_ok-measure.ensures c.in_err-count.ensures)

pub returns : goal.returns
returns c = full_read c.args.p.now.names c.args.text.now c.in_ok-measure.rest.now c.in_ok-measure.measure c.in_ok-count.count c.in_ok-measure.ensures
    c.in_ok-count.ensures
