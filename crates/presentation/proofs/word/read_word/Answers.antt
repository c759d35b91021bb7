use Rattle.word_text.specs.Machine.{finding}
use Rattle.word_text.proofs.Reading.{is_found, is_only}
use Rattle.presentation.proofs.WordsRead.{text_written}
use Rattle.presentation.proofs.word.read_word.Goals as goal

pub returns-clause-found : goal.returns-clause-found
returns-clause-found c = is_found (finding c.args.p.now.names) c.args.text.now c.read_exactly.result c.read_exactly.ensures

pub returns-clause-only : goal.returns-clause-only
returns-clause-only c = λ w h. is_only (finding c.args.p.now.names) c.args.text.now c.read_exactly.result w h c.read_exactly.ensures

pub returns-clause-written : goal.returns-clause-written
returns-clause-written c = text_written c.args.p.now.names c.args.text.now c.read_exactly.result c.read_exactly.ensures
