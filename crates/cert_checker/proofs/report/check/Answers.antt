use Rattle.cert_checker.proofs.Soundness.{sound}
use Rattle.cert_checker.proofs.Named.{named_over}
use Rattle.cert_checker.proofs.report.check.Goals as goal

pub returns-clause-sound : goal.returns-clause-sound
returns-clause-sound c = sound c.args.p.now c.args.text.now c.checked.result c.known.ensures c.checked.ensures

pub returns-clause-over : goal.returns-clause-over
returns-clause-over c = named_over c.args.p.now c.args.text.now c.checked.result c.known.ensures c.checked.ensures
