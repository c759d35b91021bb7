use Rattle.report_lines.proofs.TrimmedTexts.{trimmed_back}
use Rattle.report_lines.proofs.trimmed_writing.write_trimmed_line.Goals as goal

pub returns-clause-read_back : goal.returns-clause-read_back
returns-clause-read_back c = λ is. trimmed_back c.args.p.now c.args.line.now c.put_trimmed_line.new.out.items c.known.ensures is
    (rw c.new-out.ensures.items at c.in_ok-put_trimmed_line.ensures)
