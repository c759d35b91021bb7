use Rattle.std.proofs.Common.{rules}
use Rattle.solve_commands.proofs.Found.{no_report, run_due}
use Rattle.solve_commands.proofs.run.report.Goals as goal

pub returns-in_err-begun-clause-gives : goal.returns-in_err-begun-clause-gives
returns-in_err-begun-clause-gives g c = search (rules, no_report)

pub returns-clause-gives : goal.returns-clause-gives
returns-clause-gives g c = search (rules, run_due)
