use Rattle.report_lines.proofs.StopTexts.{no_long_step, no_long_terms, long_read}
use Rattle.report_lines.proofs.stops.long.Goals as goal

pub returns-in_err-step : goal.returns-in_err-step
returns-in_err-step c = rw c.from_residual.ensures (no_long_step c.args.p.now.names c.args.text.now c.in_err-step.ensures)

pub returns-in_err-terms : goal.returns-in_err-terms
returns-in_err-terms c = rw c.from_residual-in_err-terms.ensures (no_long_terms c.args.p.now.names c.args.text.now c.in_ok-step.rest.now c.in_ok-step.step
    c.in_ok-step.ensures c.in_err-terms.ensures)

pub returns : goal.returns
returns c = long_read c.args.p.now.names c.args.text.now c.in_ok-step.rest.now c.in_ok-step.step c.in_ok-terms.terms c.in_ok-step.ensures c.in_ok-terms.ensures
