use Rattle.std.proofs.Common.{rules}
use Rattle.legal_report.proofs.Completed.{sealed_already}
use Rattle.legal_report.proofs.gathering.complete.Goals as goal

pub returns-in-Some : goal.returns-in-Some
returns-in-Some c = sealed_already c.args.p.now.value c.args.book.now c.in-Some.seal.now (search rules) (search rules) (search rules) (search rules)
