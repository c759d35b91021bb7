use Rattle.report_reading.proofs.reader.Reader.take_line.Goals as goal

pub may_follow-requires : goal.may_follow-requires
may_follow-requires c = (c.args.p.now, c.requires)
