use Rattle.std.proofs.Common.{rules}
use Rattle.report_reading.proofs.Placing.{next_open, no_reply}
use Rattle.report_reading.proofs.reader.Reader.is_next_open.Goals as goal

pub returns-in-Some-reply_at : goal.returns-in-Some-reply_at
returns-in-Some-reply_at c =
    next_open c.args.self.now c.args.session c.args.number c.in-Some.place.now c.in-Some.at.now c.args.question.now c.in-Some-reply_at.reply.now
    c.same.result
    (search rules) (search rules) (search rules) c.same.ensures

pub returns-in-None : goal.returns-in-None
returns-in-None c = no_reply c.args.self.now c.args.session c.args.number c.in-Some.place.now c.in-Some.at.now c.args.question.now (search rules) (search rules)
