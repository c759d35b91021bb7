use Rattle.presentation.proofs.WritingWhole.{presentation_read_before}
use Rattle.presentation.proofs.reading_back.written_presentation_is_read_behind_blanks.Goals as goal

pub returns : goal.returns
returns c = presentation_read_before
