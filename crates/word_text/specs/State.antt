-- Where the reading of a word stands, by its words.
use Rattle.word_text.specs.declared.machine.State.{State}
use Rattle.word_text.specs.Machine.{Reading}

abbrev pub reading : State → Reading
reading s = record { frames = s.draft.frames; product = s.draft.product; spot = s.spot }
