use Rattle.std.proofs.Common.{drop, ◌∙◌, ap}
use Rattle.word_text.specs.Scan.{after_blanks}
use Rattle.presentation.proofs.Keywords.{name_end}
use Rattle.presentation.proofs.line.WordReader.at_keyword.Goals as goal

pub goes_to-requires-clause-end : goal.goes_to-requires-clause-end
goes_to-requires-clause-end c =
    name_end (drop c.args.self.now.at c.args.self.now.text.now) c.skip_blanks.result.now c.split_name.result.1.now
    (c.skip_blanks.ensures.rest ∙ ap after_blanks c.rest.ensures) c.split_name.ensures.rest
