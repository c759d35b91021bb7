use Rattle.std.proofs.Common.{rules}
use Rattle.std.proofs.lemmas.Result.{IfOk-weaker}
use Rattle.report_text.specs.Reports.{reported}
use Rattle.report_text.proofs.Existing.{history_there}
use Rattle.legal_report.specs.Last.{AreFound}
use Rattle.legal_report.proofs.last.last_kinds.Goals as goal

pub returns-clause-told : goal.returns-clause-told
returns-clause-told c =
    IfOk-weaker c.kinds_of.result _ _ (λ kinds found. history_there (reported c.args.report.now) c.requires (search (rules, found.closings))) c.kinds_of.ensures
