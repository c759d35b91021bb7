use Rattle.std.proofs.Common.{subst}
use Rattle.spelling.specs.Spelling.{IsRead}
use Rattle.report_lines.specs.Trimmed.{trimmed_line_text, IsTrimmedLineOf}
use Rattle.report_reading.specs.declared.form.Form.TheVariants.{Trimmed}
use Rattle.report_reading.proofs.Placing.{line_taken}
use Rattle.report_reading.proofs.reader.Reader.take_trimmed.Goals as goal

pub returns-in-Some : goal.returns-in-Some
returns-in-Some c =
    let read = subst (IsRead (trimmed_line_text c.args.p.now) (IsTrimmedLineOf c.args.p.now) c.args.bytes.now) c.in-Some.is c.in_ok-line.ensures in
    line_taken (Trimmed c.args.items) c.args.p.now c.args.self c.args.bytes.now c.in-Some.line c.take_trimmed_line.result c.known.ensures read.0 read.1
    c.take_trimmed_line.ensures
