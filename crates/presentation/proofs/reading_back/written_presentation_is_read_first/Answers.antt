use Rattle.presentation.proofs.WritingWhole.{presentation_read_first}
use Rattle.presentation.proofs.reading_back.written_presentation_is_read_first.Goals as goal

pub returns : goal.returns
returns c = presentation_read_first
