use Rattle.report_lines.proofs.StopTexts.{no_wide_step, no_wide_place, wide_read}
use Rattle.report_lines.proofs.stops.wide.Goals as goal

pub returns-in_err-step : goal.returns-in_err-step
returns-in_err-step c = rw c.from_residual.ensures (no_wide_step c.args.p.now.names c.args.text.now c.in_err-step.ensures)

pub returns-in_default : goal.returns-in_default
returns-in_default c = no_wide_place c.args.p.now.names c.args.text.now c.in_ok-step.rest.now c.in_ok-step.step _ c.in_ok-step.ensures
    c.in_default.ensures.reads c.in_default.ensures.no_memory_taken

pub returns : goal.returns
returns c = wide_read c.args.p.now.names c.args.text.now c.in_ok-step.rest.now c.in_ok-step.step c.in-Ok.at c.in_ok-step.ensures c.in-Ok.ensures.reads
