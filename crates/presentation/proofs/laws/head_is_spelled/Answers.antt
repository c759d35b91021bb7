use Rattle.presentation.proofs.SoundWhole.{presentation_sound}
use Rattle.presentation.proofs.laws.head_is_spelled.Goals as goal

pub returns : goal.returns
returns c = presentation_sound
