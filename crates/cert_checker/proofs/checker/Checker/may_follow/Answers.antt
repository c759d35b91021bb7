use Rattle.std.proofs.Common.{◌↔◌, IsTrue, sym, subst}
use Rattle.report_lines.specs.declared.trimmed.EntryNumber.{EntryNumber}
use Rattle.report_lines.specs.declared.trimmed.TrimmedLine.TheVariants.{Entry}
use Rattle.cert_checker.specs.States.{LineFollows}
use Rattle.cert_checker.proofs.checker.Checker.may_follow.Goals as goal

pub returns-in-Entry : goal.returns-in-Entry
returns-in-Entry c = subst (λ l. IsTrue c.kept_may_follow.result ↔ LineFollows c.args.generators.now c.args.self.now l) (sym c.in-Entry.is)
    (subst (λ (at : EntryNumber). IsTrue c.kept_may_follow.result
    ↔ LineFollows c.args.generators.now c.args.self.now (Entry at.number at.from c.in-Entry.made c.in-Entry.vector)) c.new.ensures
    (c.kept_may_follow.ensures c.in-Entry.vector))
