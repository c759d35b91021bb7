use Rattle.report_trimming.proofs.Once.{one_trimming}
use Rattle.report_trimming.proofs.laws.one_trimming.Goals as goal

pub returns : goal.returns
returns c = one_trimming
