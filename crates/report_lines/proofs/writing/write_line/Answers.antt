use Rattle.report_lines.proofs.ReadingBack.{line_back}
use Rattle.report_lines.proofs.writing.write_line.Goals as goal

pub returns-clause-read_back : goal.returns-clause-read_back
returns-clause-read_back c = λ is. line_back c.args.p.now c.args.line.now c.put_line.new.out.items c.known.ensures is
    (rw c.new-out.ensures.items at c.in_ok-put_line.ensures)
