use Rattle.std.proofs.lemmas.List.{drop_all}
use Rattle.module_vec.proofs.FallingTerms.{drop_read}
use Rattle.report_reading.specs.declared.entry.EntryData.{EntryData}
use Rattle.flat_making.proofs.Handings.{lines_next, lines_last}
use Rattle.flat_making.proofs.lines.certificate_lines.Goals as goal

pub loop-number-preserved : goal.loop-number-preserved
loop-number-preserved c = λ all held rest are.
    let es = c.args.entries.now in
    let n = c.loop-number.number in
    let e : EntryData = c.index-entries-number.result in
    lines_next c.args.kinds.now all c.args.handed.now held n es e c.loop-number.made.items c.put_lines.new.made.items rest
    (drop_read es n e c.loop-number-test.true c.index-entries-number.is) c.in_ok-put_lines.ensures (c.loop-number.invariant all held) are

pub returns : goal.returns
returns c = λ all held.
    lines_last c.args.kinds.now all c.loop-number.number c.args.entries.now c.loop-number.made.items
    (drop_all c.loop-number.number c.args.entries.now c.loop-number-test.false) (c.loop-number.invariant all held)
