use Rattle.presentation.specs.Presented.{Presented}
use Rattle.presentation.proofs.Limits.{presentation_end}
use Rattle.presentation.proofs.SoundWhole.{presentation_sound}
use Rattle.presentation.proofs.line.WordReader.at_presentation.Goals as goal

pub goes_to-requires-clause-end : goal.goes_to-requires-clause-end
goes_to-requires-clause-end c =
    let p : Presented = c.in-Ok.p in
    rw (← c.rest.ensures) (presentation_end c.rest.result.now p.names p.relators c.in-Ok.rest.now
    (presentation_sound c.rest.result.now p c.in-Ok.rest.now c.in-Ok.ensures).0)

pub returns-in-Ok-clause-no_modulus : goal.returns-in-Ok-clause-no_modulus
returns-in-Ok-clause-no_modulus c = (presentation_sound c.rest.result.now c.in-Ok.p c.in-Ok.rest.now c.in-Ok.ensures).1
