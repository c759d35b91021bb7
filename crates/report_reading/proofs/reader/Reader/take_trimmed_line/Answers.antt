use Rattle.report_reading.proofs.reader.Reader.take_trimmed_line.Goals as goal

pub trimmed_may_follow-requires : goal.trimmed_may_follow-requires
trimmed_may_follow-requires c = (c.args.p.now, c.requires)
