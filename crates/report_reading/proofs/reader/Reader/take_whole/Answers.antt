use Rattle.std.proofs.Common.{subst}
use Rattle.spelling.specs.Spelling.{IsRead}
use Rattle.report_lines.specs.Lines.{IsLineOf}
use Rattle.report_lines.specs.Texts.{line_text}
use Rattle.report_reading.specs.declared.form.Form.TheVariants.{Whole}
use Rattle.report_reading.proofs.Placing.{line_taken}
use Rattle.report_reading.proofs.reader.Reader.take_whole.Goals as goal

pub returns-in-Some : goal.returns-in-Some
returns-in-Some c =
    let read = subst (IsRead (line_text c.args.p.now) (IsLineOf c.args.p.now) c.args.bytes.now) c.in-Some.is c.in_ok-line.ensures in
    line_taken Whole c.args.p.now c.args.self c.args.bytes.now c.in-Some.line c.take_line.result c.known.ensures read.0 read.1 c.take_line.ensures
