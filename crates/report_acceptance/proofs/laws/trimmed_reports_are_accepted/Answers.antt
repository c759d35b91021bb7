use Rattle.report_acceptance.proofs.TrimmedAcceptance.{trimming_accepted}
use Rattle.report_acceptance.proofs.laws.trimmed_reports_are_accepted.Goals as goal

pub returns : goal.returns
returns c r h known can is t trims text says answer told = trimming_accepted r h known can is t trims text says answer told
