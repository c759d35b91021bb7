use Rattle.flat_making.proofs.Reported.{is_checked}
use Rattle.flat_making.proofs.laws.accepted_reports_hold.Goals as goal

pub returns : goal.returns
returns c = is_checked
