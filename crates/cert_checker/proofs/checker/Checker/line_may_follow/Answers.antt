use Rattle.std.proofs.Common.{◌↔◌, IsTrue, sym, subst}
use Rattle.cert_checker.specs.States.{MayFollow}
use Rattle.cert_checker.proofs.checker.Checker.line_may_follow.Goals as goal

pub returns-in-Entry : goal.returns-in-Entry
returns-in-Entry c = subst (λ l. IsTrue c.entry_may_follow.result ↔ MayFollow c.args.generators.now c.args.self.now l) (sym c.in-Entry.is)
    (c.entry_may_follow.ensures c.in-Entry.vector)

pub returns-in-Live : goal.returns-in-Live
returns-in-Live c = subst (λ l. IsTrue c.answer_may_follow.result ↔ MayFollow c.args.generators.now c.args.self.now l) (sym c.in-Live.is)
    (c.answer_may_follow.ensures c.in-Live.session c.in-Live.number c.in-Live.verdict)

pub returns-in-End : goal.returns-in-End
returns-in-End c = subst (λ l. IsTrue c.end_may_follow.result ↔ MayFollow c.args.generators.now c.args.self.now l) (sym c.in-End.is)
    (c.end_may_follow.ensures c.in-End.field-0)

pub returns-in-Close : goal.returns-in-Close
returns-in-Close c = subst (λ l. IsTrue c.closing_may_follow.result ↔ MayFollow c.args.generators.now c.args.self.now l) (sym c.in-Close.is)
    (c.closing_may_follow.ensures c.in-Close.session c.in-Close.number c.in-Close.verdict)
