use Rattle.std.proofs.Common.{◌≡◌, ◌∙◌, sym, string_bytes}
use Rattle.std.specs.Str.{bytes_eq}
use Rattle.word_text.proofs.Finding.{position-map}
use Rattle.presentation.proofs.generator.number_of.Goals as goal

pub returns-clause-number : goal.returns-clause-number
returns-clause-number c = c.place_of.ensures.place ∙ sym (position-map string_bytes (λ n. bytes_eq n c.args.name.now) c.args.names.now)
