use Rattle.presentation.proofs.Limits.{presentation_end}
use Rattle.presentation.proofs.SoundWhole.{presentation_sound}
use Rattle.presentation.proofs.laws.rest_is_an_end.Goals as goal

pub returns : goal.returns
returns c = λ text p rest e. presentation_end text p.names p.relators rest (presentation_sound text p rest e).0
