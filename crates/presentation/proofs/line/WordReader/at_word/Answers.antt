use Rattle.presentation.proofs.Ends.{word}
use Rattle.presentation.proofs.WordsRead.{word_written}
use Rattle.presentation.proofs.line.WordReader.at_word.Goals as goal

pub goes_to-requires-clause-end : goal.goes_to-requires-clause-end
goes_to-requires-clause-end c = rw (← c.rest.ensures) (word _ c.rest.result.now c.in-Ok.word c.in-Ok.rest.now c.in-Ok.ensures)

pub returns-in-Ok-clause-written : goal.returns-in-Ok-clause-written
returns-in-Ok-clause-written c =
    word_written c.args.p.now.names c.rest.result.now c.in-Ok.word c.in-Ok.rest.now (rw c.names.ensures.names at c.in-Ok.ensures)
