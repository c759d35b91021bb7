use Rattle.std.proofs.Common.{◌≡◌, IfOk, sym, subst}
use Rattle.report_reading.specs.Telling.{tell}
use Rattle.report_reading.proofs.reader.Reader.with.Goals as goal

pub returns-in-Proof : goal.returns-in-Proof
returns-in-Proof c = subst (λ l. IfOk c.with_proof.result (λ taken. taken ≡ tell c.args.self l)) (sym c.in-Proof.is) (c.with_proof.ensures c.in-Proof.subject)
