use Rattle.report_reading.proofs.Heads.{whole}
use Rattle.report_reading.proofs.report.read_report.Goals as goal

pub returns : goal.returns
returns c = whole c.in_ok-form.form c.args.p.now c.args.text.now c.in_ok-form.body.now c.read_body.result c.in_ok-form.ensures.body.0
    c.in_ok-form.ensures.body.1 c.read_body.ensures
