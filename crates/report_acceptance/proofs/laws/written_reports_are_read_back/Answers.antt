use Rattle.report_acceptance.proofs.Whole.{is_read_back}
use Rattle.report_acceptance.proofs.laws.written_reports_are_read_back.Goals as goal

pub returns : goal.returns
returns c = is_read_back c.written_reports_say.ensures c.reports_say_one_thing.ensures c.reports_have_no_fault.ensures
