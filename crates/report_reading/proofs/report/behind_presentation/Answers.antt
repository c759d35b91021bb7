use Rattle.report_lines.specs.Texts.{pres_line}
use Rattle.report_reading.proofs.Heads.{behind_line}
use Rattle.report_reading.proofs.report.behind_presentation.Goals as goal

pub returns-clause-body : goal.returns-clause-body
returns-clause-body c = behind_line (pres_line c.args.p.now) c.args.text.now c.in-Some.second.now c.in-Some.body.now c.in-Some.ensures.parts
    (c.in_ok-is_pres_line.ensures.0 c.if-not-branch.false)
