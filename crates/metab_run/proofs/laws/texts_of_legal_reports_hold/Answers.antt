use Rattle.report_text.specs.Reports.{text_of}
use Rattle.report_acceptance.specs.Accepting.{told_amount}
use Rattle.metab_run.proofs.Held.{says_holds}
use Rattle.metab_run.proofs.laws.texts_of_legal_reports_hold.Goals as goal

pub returns : goal.returns
returns c p limits questions r h known few legal is =
    says_holds p (text_of r h) (told_amount r h) (c.texts_of_legal_reports_hold.ensures p limits questions r h known few legal is)
