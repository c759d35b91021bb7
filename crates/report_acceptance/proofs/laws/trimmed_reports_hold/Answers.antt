use Rattle.report_acceptance.proofs.TrimmedAcceptance.{trimming_holds}
use Rattle.report_acceptance.proofs.laws.trimmed_reports_hold.Goals as goal

pub returns : goal.returns
returns c r h known can is t trims text says = trimming_holds r h known can is t trims text says
