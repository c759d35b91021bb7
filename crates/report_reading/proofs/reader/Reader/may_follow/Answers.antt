use Rattle.std.proofs.Common.{◌↔◌, IsTrue, sym, subst}
use Rattle.report_reading.specs.Telling.{MayFollow}
use Rattle.report_reading.proofs.reader.Reader.may_follow.Goals as goal

pub returns-in-Entry : goal.returns-in-Entry
returns-in-Entry c = subst (λ l. IsTrue c.entry_may_follow.result ↔ MayFollow c.args.self.now l) (sym c.in-Entry.is)
    (c.entry_may_follow.ensures c.in-Entry.made c.in-Entry.vector)

pub returns-in-Live : goal.returns-in-Live
returns-in-Live c = subst (λ l. IsTrue c.answer_may_follow.result ↔ MayFollow c.args.self.now l) (sym c.in-Live.is)
    (c.answer_may_follow.ensures c.in-Live.verdict)
