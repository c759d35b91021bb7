use Rattle.std.specs.Prelude.{codes}
use Rattle.presentation.specs.Reading.{presentation_text}
use Rattle.command_floor.proofs.Wording.{text_refused}
use Rattle.solve_commands.proofs.generate.presentation_in.Goals as goal

pub returns-in-Err-clause-gives : goal.returns-in-Err-clause-gives
returns-in-Err-clause-gives c =
    text_refused (codes "presentation") c.args.text.now (presentation_text c.args.text.now) c.in-Err.fault c.refusal.result c.in-Err.ensures.exact
    c.refusal.ensures.refuses
