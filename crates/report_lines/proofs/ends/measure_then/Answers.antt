use Rattle.report_lines.specs.Texts.{measure_text}
use Rattle.report_lines.specs.Lines.{IsMeasure}
use Rattle.report_lines.proofs.Pairs.{uncut, no_head, head_read}
use Rattle.report_lines.proofs.EndTexts.{measures_apart}
use Rattle.report_lines.proofs.ends.measure_then.Goals as goal

pub returns-in_err-front : goal.returns-in_err-front
returns-in_err-front c = rw c.from_residual.ensures (uncut 32 measure_text IsMeasure measures_apart c.args.text.now c.in_err-front.ensures.parts)

pub returns-in_err-measure : goal.returns-in_err-measure
returns-in_err-measure c = rw c.from_residual-in_err-measure.ensures (no_head 32 measure_text IsMeasure measures_apart c.args.text.now c.in_ok-front.front.now
    c.in_ok-front.rest.now c.in_ok-front.ensures.parts c.in_err-measure.ensures)

pub returns : goal.returns
returns c = head_read 32 measure_text IsMeasure c.args.text.now c.in_ok-front.front.now c.in_ok-front.rest.now c.in_ok-measure.measure
    c.in_ok-front.ensures.parts c.in_ok-measure.ensures
