-- What `check` answers of a text that holds.
use Rattle.std.proofs.Common.{List, ℕ, Ok, refl}
use Rattle.presentation.specs.Presented.{Presented}
use Rattle.cert_checker.specs.declared.checked.Checked.{Checked}
use Rattle.cert_checker.specs.Texts.{TellsWhole}
use Rattle.check_commands.specs.Check.{holds, ReportLeads}

pub says_holds : (p : Presented) (text : List ℕ) (amount : Checked) → TellsWhole p text (Ok amount) → ReportLeads p text (holds amount)
says_holds p text amount tells = (Ok amount, tells, refl)
