use Rattle.std.proofs.Common.{subst}
use Rattle.report_reading.specs.Reading.{TakesBytes}
use Rattle.report_reading.proofs.Listing.{left_others}
use Rattle.report_reading.proofs.report.read_body.Goals as goal

pub loop-line-preserved : goal.loop-line-preserved
loop-line-preserved c =
    left_others c.args.form c.args.p.now c.args.text.now c.loop-line.number c.saturating_add-number.result c.loop-line.reader c.in-Some-2.taken
    c.loop-line.rest.now c.in-Some.line.now c.in-Some.others.now
    c.loop-line.invariant c.in-Some.ensures.parts
    (subst (TakesBytes c.args.form c.args.p.now c.loop-line.reader c.in-Some.line.now) c.in-Some-2.is c.in_ok-taken.ensures)
    c.saturating_add-number.ensures
