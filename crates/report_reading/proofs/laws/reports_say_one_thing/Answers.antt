use Rattle.report_reading.proofs.Agreeing.{one_data}
use Rattle.report_reading.proofs.laws.reports_say_one_thing.Goals as goal

pub returns : goal.returns
returns c = one_data
