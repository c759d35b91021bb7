use Rattle.word_text.specs.Scan.{after_blanks, after_digits}
use Rattle.presentation.proofs.Ends.{join, blanks, digits}
use Rattle.presentation.proofs.line.WordReader.at_number.Goals as goal

pub goes_to-requires-clause-end : goal.goes_to-requires-clause-end
goes_to-requires-clause-end c =
    let here = c.rest.result.now in
    rw (c.in-Ok.ensures.rest, c.skip_blanks.ensures.rest, ← c.rest.ensures) (join here (after_blanks here) (after_digits (after_blanks here)) (blanks here)
    (digits (after_blanks here)))
